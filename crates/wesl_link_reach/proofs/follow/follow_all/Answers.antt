use Rattle.std.proofs.Common.{refl}
use Rattle.std.proofs.lemmas.List.{take_all}
use Rattle.wesl_link_symbols.specs.declared.ids.PathId.{PathId}
use Rattle.wesl_tree_base.specs.declared.ids.NameId.{NameId}
use Rattle.wesl_link_symbols.specs.declared.symbols.LookUp.{LookUp}
use Rattle.wesl_link_reach.specs.Loading.{IsAnswered}
use Rattle.wesl_link_reach.proofs.Growth.{followed_more}
use Rattle.wesl_link_reach.proofs.Growing.{first_more, element_of}
use Rattle.wesl_link_reach.proofs.Following.{world_on, can_more, grows_trans, adds_trans}
use Rattle.wesl_link_reach.proofs.follow.follow_all.Goals as goal

pub follow-requires-clause-followed : goal.follow-requires-clause-followed
follow-requires-clause-followed g c =
    followed_more (world_on c.args.request.now _ _ c.loop-look_up.invariant.grows) _ (c.requires.followed _ (element_of _ _ _ _ refl c.loop-look_up-test.true))

pub follow-requires-clause-can : goal.follow-requires-clause-can
follow-requires-clause-can g c =
    can_more _ c.loop-look_up.invariant.adds (world_on c.args.request.now _ _ c.loop-look_up.invariant.grows) (c.requires.can _ (element_of _ _ _ _ refl c.loop-look_up-test.true))

pub loop-look_up-preserved : goal.loop-look_up-preserved
loop-look_up-preserved g c = record {
  sound = c.in_ok-follow.ensures.sound;
  grows = grows_trans _ _ _ c.loop-look_up.invariant.grows c.in_ok-follow.ensures.grows;
  answered = first_more (λ (l : LookUp PathId NameId). IsAnswered c.follow.new.loaded.answers.entries l) _ _ _ c.loop-look_up-test.true
      (λ l h. c.in_ok-follow.ensures.grows.answers l (c.loop-look_up.invariant.answered l h)) c.in_ok-follow.ensures.answered;
  adds = adds_trans c.loop-look_up.invariant.adds c.in_ok-follow.ensures.adds;
}

pub returns-clause-answered : goal.returns-clause-answered
returns-clause-answered g c = λ l h. c.loop-look_up.invariant.answered l (rw (take_all _ _ c.loop-look_up-test.false) h)
