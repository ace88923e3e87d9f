use Rattle.wesl_link_reasons.specs.Searching.{world_in, task_in}
use Rattle.wesl_link_reasons.proofs.Passing.{through_done}
use Rattle.wesl_link_reasons.proofs.search.Search.hop.Goals as goal

pub returns-then-has-clause-through : goal.returns-then-has-clause-through
returns-then-has-clause-through c = through_done (world_in c.args.map.now) (task_in c.args.map.now) _ _ c.args.look_up c.requires.through (c.has.ensures.0 c.if-has.true)
