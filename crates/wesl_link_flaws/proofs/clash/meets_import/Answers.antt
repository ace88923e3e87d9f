use Rattle.std.proofs.Common.{inr, refl}
use Rattle.wesl_link_reach.proofs.Clashing.{none_met}
use Rattle.wesl_link_flaws.proofs.clash.meets_import.Goals as goal

pub returns-else-stands_always-clause-no : goal.returns-else-stands_always-clause-no
returns-else-stands_always-clause-no c = λ no. inr (none_met c.args.table.now c.args.import.now (c.if-stands_always.ensures.no refl) (c.sees_other.ensures.no no))
