use Rattle.std.proofs.Common.{refl}
use Rattle.std.proofs.lemmas.List.{take_all}
use Rattle.wesl_link_symbols.specs.declared.ids.PathId.{PathId}
use Rattle.wesl_link_symbols.proofs.Lists.{contains_nil}
use Rattle.wesl_link_reach.proofs.Following.{adds_itself, adds_trans}
use Rattle.wesl_link_reach.proofs.Growing.{element_of, first_more, within_on}
use Rattle.wesl_link_reach.proofs.Growth.{entered_more}
use Rattle.wesl_link_faults.specs.Loading.{HasPlace}
use Rattle.wesl_link_faults.proofs.Placed.{moves_itself, moves_trans, place_on}
use Rattle.wesl_link_faults.proofs.loading.ask_all.Goals as goal

pub loop-path-init : goal.loop-path-init
loop-path-init g c = record {
  sound = c.requires.sound;
  moves = moves_itself _;
  there = λ p h. absurd (contains_nil p h);
  adds = adds_itself (g.L.Loader.hands c.args.loader.now) (g.L.Loader.refuses c.args.loader.now) (g.L.Loader.ready c.args.loader.now);
}

pub ask_new-requires-clause-entered : goal.ask_new-requires-clause-entered
ask_new-requires-clause-entered g c = entered_more (within_on _ _ c.loop-path.invariant.moves.tables) _ (c.requires.entered _ (element_of _ _ _ _ refl c.loop-path-test.true))

pub loop-path-preserved : goal.loop-path-preserved
loop-path-preserved g c = record {
  sound = c.in_ok-ask_new.ensures.sound;
  moves = moves_trans _ _ _ c.loop-path.invariant.moves c.in_ok-ask_new.ensures.moves;
  there = first_more (λ (p : PathId). HasPlace c.args.wanted.now c.ask_new.new.loaded p) _ _ _ c.loop-path-test.true
      (λ p h. place_on c.args.wanted.now _ _ p c.in_ok-ask_new.ensures.moves (c.loop-path.invariant.there p h)) c.in_ok-ask_new.ensures.there;
  adds = adds_trans c.loop-path.invariant.adds c.in_ok-ask_new.ensures.adds;
}

pub returns-clause-there : goal.returns-clause-there
returns-clause-there g c = λ p h. c.loop-path.invariant.there p (rw (take_all _ _ c.loop-path-test.false) h)
