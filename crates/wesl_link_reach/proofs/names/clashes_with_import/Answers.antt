use Rattle.std.proofs.Common.{inr}
use Rattle.wesl_link_reach.proofs.names.clashes_with_import.Goals as goal

pub returns-then-not-agrees_with_last-clause-no : goal.returns-then-not-agrees_with_last-clause-no
returns-then-not-agrees_with_last-clause-no c = λ no. inr (c.meets_import.ensures.no no)
