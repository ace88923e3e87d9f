use Rattle.std.proofs.Common.{refl}
use Rattle.wesl_link_reach.proofs.Growing.{element_of}
use Rattle.wesl_link_ahead.proofs.Going.{comes_first}
use Rattle.wesl_link_ahead.proofs.ahead.Ahead.follow_all.Goals as goal

pub walk-requires-clause-way : goal.walk-requires-clause-way
walk-requires-clause-way c = comes_first _ _ (c.requires.followed _ (element_of _ _ _ _ refl c.loop-look_up-test.true))
