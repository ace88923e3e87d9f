use Rattle.wesl_link_reach.proofs.Clashing.{like_last_by}
use Rattle.wesl_link_reach.proofs.names.agrees_with_last.Goals as goal

pub returns-in-Some : goal.returns-in-Some
returns-in-Some c = λ yes. like_last_by c.args.table.now c.args.import.now c.in-Some.index _ _ c.in-Some.ensures c.imports.ensures (c.same_target.ensures.yes yes)
