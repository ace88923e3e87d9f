use Rattle.std.proofs.Common.{refl}
use Rattle.wesl_link_reach.specs.World.Followed.{kept}
use Rattle.wesl_link_reach.proofs.Growing.{element_of}
use Rattle.wesl_link_ahead.proofs.Going.{comes_first}
use Rattle.wesl_link_ahead.proofs.ahead.Ahead.follow_kept.Goals as goal

pub walk-requires-clause-way : goal.walk-requires-clause-way
walk-requires-clause-way c = comes_first _ _ (kept _ (_, element_of _ _ _ _ refl c.loop-name-test.true, refl))
