use Rattle.std.proofs.Common.{refl}
use Rattle.wesl_link_reach.proofs.Clashing.{other_met, none_met}
use Rattle.wesl_link_reach.proofs.names.meets_import.Goals as goal

pub returns-clause-yes : goal.returns-clause-yes
returns-clause-yes c = λ yes. other_met c.args.table.now c.args.import.now (c.sees_other.ensures.yes yes)

pub returns-clause-no : goal.returns-clause-no
returns-clause-no c = λ no. none_met c.args.table.now c.args.import.now (c.if-stands_always.ensures.no refl) (c.sees_other.ensures.no no)
