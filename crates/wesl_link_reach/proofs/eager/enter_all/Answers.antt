use Rattle.std.proofs.Common.{refl}
use Rattle.std.proofs.lemmas.List.{take_all}
use Rattle.wesl_link_symbols.specs.declared.ids.PathId.{PathId}
use Rattle.wesl_tree_base.specs.declared.ids.NameId.{NameId}
use Rattle.wesl_link_symbols.specs.Tables.{Table}
use Rattle.wesl_link_reach.specs.World.{IsAt}
use Rattle.wesl_link_reach.specs.Loading.{world_of}
use Rattle.wesl_link_reach.proofs.Growth.{entered_more, at_more}
use Rattle.wesl_link_reach.proofs.Growing.{first_more, element_of}
use Rattle.wesl_link_reach.proofs.Following.{world_on, can_more, grows_trans, adds_trans}
use Rattle.wesl_link_reach.proofs.eager.enter_all.Goals as goal

pub load-requires-clause-entered : goal.load-requires-clause-entered
load-requires-clause-entered g c =
    entered_more (world_on c.args.request.now _ _ c.loop-path.invariant.grows) _ (c.requires.entered _ (element_of _ _ _ _ refl c.loop-path-test.true))

pub load-requires-clause-can : goal.load-requires-clause-can
load-requires-clause-can g c =
    can_more _ c.loop-path.invariant.adds (world_on c.args.request.now _ _ c.loop-path.invariant.grows) (c.requires.can _ (element_of _ _ _ _ refl c.loop-path-test.true))

pub loop-path-preserved : goal.loop-path-preserved
loop-path-preserved g c = record {
  sound = c.in_ok-load.ensures.sound;
  grows = grows_trans _ _ _ c.loop-path.invariant.grows c.in_ok-load.ensures.grows;
  there = first_more (λ (p : PathId). (t : Table PathId NameId) × IsAt (world_of c.args.request.now c.load.new.loaded) p t) _ _ _ c.loop-path-test.true
      (λ p h. (let (t, at) = c.loop-path.invariant.there p h in (t, at_more (world_on c.args.request.now _ _ c.in_ok-load.ensures.grows) p t at))) c.in_ok-load.ensures.there;
  adds = adds_trans c.loop-path.invariant.adds c.in_ok-load.ensures.adds;
}

pub returns-clause-there : goal.returns-clause-there
returns-clause-there g c = λ p h. c.loop-path.invariant.there p (rw (take_all _ _ c.loop-path-test.false) h)
