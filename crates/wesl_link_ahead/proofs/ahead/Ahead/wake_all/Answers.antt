use Rattle.std.proofs.Common.{refl}
use Rattle.wesl_link_reach.proofs.Growing.{element_of}
use Rattle.wesl_link_ahead.proofs.Going.{asked_on}
use Rattle.wesl_link_ahead.proofs.ahead.Ahead.wake_all.Goals as goal

pub loop-look_up-init : goal.loop-look_up-init
loop-look_up-init c = record { ahead = c.requires.ahead; keeps = λ q h. h }

pub wake-requires-clause-asked : goal.wake-requires-clause-asked
wake-requires-clause-asked c = asked_on _ _ c.loop-look_up.invariant.keeps _ (c.requires.asked _ (element_of _ _ _ _ refl c.loop-look_up-test.true))

pub loop-look_up-preserved : goal.loop-look_up-preserved
loop-look_up-preserved c = record { ahead = c.in_ok-wake.ensures.ahead; keeps = λ q h. c.in_ok-wake.ensures.keeps q (c.loop-look_up.invariant.keeps q h) }
