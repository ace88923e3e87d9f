use Rattle.std.proofs.Common.{inr, ap, Some}
use Rattle.wesl_link_symbols.proofs.table.Table.sees_other.Goals as goal

pub returns-clause-no : goal.returns-clause-no
returns-clause-no c = λ fails j held sees. c.has.ensures.no fails j held (inr (ap Some c.path.ensures), sees)
