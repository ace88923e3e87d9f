use Rattle.wesl_link_reach.proofs.Following.{adds_itself, adds_trans}
use Rattle.wesl_link_reach.proofs.Growing.{goes_on_itself, goes_on_trans}
use Rattle.wesl_link_ahead.proofs.Going.{ahead_more}
use Rattle.wesl_link_faults.proofs.Placed.{tables_entered}
use Rattle.wesl_link_faults.proofs.loading.load_ahead.Goals as goal

pub loop-round-init : goal.loop-round-init
loop-round-init g c = record {
  sound = c.requires.sound;
  ahead = rw c.deref.ensures.value at c.in_ok-ahead.ensures;
  on = goes_on_itself _;
  adds = adds_itself (g.L.Loader.hands c.args.loader.now) (g.L.Loader.refuses c.args.loader.now) (g.L.Loader.ready c.args.loader.now);
}

pub go_ahead-requires-clause-modules : goal.go_ahead-requires-clause-modules
go_ahead-requires-clause-modules g c = rw c.deref-in-loop-round.ensures.value (tables_entered c.loop-round.invariant.sound)

pub ask_all-requires-clause-entered : goal.ask_all-requires-clause-entered
ask_all-requires-clause-entered g c = λ p h. rw c.deref-in-loop-round.ensures.value at (c.in_ok-paths.ensures.entered p (rw c.deref-in-loop-round-2.ensures.value at h))

pub loop-round-preserved : goal.loop-round-preserved
loop-round-preserved g c = record {
  sound = c.in_ok-ask_all.ensures.sound;
  ahead = ahead_more c.in_ok-ask_all.ensures.moves.tables _ (rw c.deref-in-loop-round.ensures.value at c.in_ok-paths.ensures.ahead);
  on = goes_on_trans _ _ _ c.loop-round.invariant.on c.in_ok-ask_all.ensures.moves.tables;
  adds = adds_trans c.loop-round.invariant.adds c.in_ok-ask_all.ensures.adds;
}
