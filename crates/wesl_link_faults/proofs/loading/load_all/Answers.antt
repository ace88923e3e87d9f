use Rattle.wesl_link_reach.proofs.Following.{adds_trans}
use Rattle.wesl_link_reach.proofs.Growing.{goes_on_trans}
use Rattle.wesl_link_faults.proofs.loading.load_all.Goals as goal

pub rounds-init : goal.rounds-init
rounds-init g c = record { sound = c.in_ok-load_ahead.ensures.sound; on = c.in_ok-load_ahead.ensures.on; adds = c.in_ok-load_ahead.ensures.adds }

pub findings_in-requires : goal.findings_in-requires
findings_in-requires g c = record {
  one_table = λ t u h k e. c.rounds.invariant.sound.world.one_table t u (rw c.deref.ensures.value at h) (rw c.deref.ensures.value at k) e;
}

pub ask_all-requires-clause-entered : goal.ask_all-requires-clause-entered
ask_all-requires-clause-entered g c = λ p h.
    ((rw c.deref.ensures.value at (rw c.deref-in-rounds.ensures.value at c.in_ok-found.ensures)).entered p).0 (rw c.deref-in-rounds-2.ensures.value at h)

pub returns-then-len-before-clause-there : goal.returns-then-len-before-clause-there
returns-then-len-before-clause-there g c = λ p h. c.in_ok-ask_all.ensures.there p (rw c.deref-in-rounds-2.ensures.value h)

pub rounds-preserved : goal.rounds-preserved
rounds-preserved g c = record {
  sound = c.in_ok-ask_all.ensures.sound;
  on = goes_on_trans _ _ _ c.rounds.invariant.on c.in_ok-ask_all.ensures.moves.tables;
  adds = adds_trans c.rounds.invariant.adds c.in_ok-ask_all.ensures.adds;
}
