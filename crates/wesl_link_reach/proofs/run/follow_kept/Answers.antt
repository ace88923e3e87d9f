use Rattle.std.proofs.Common.{refl, inr, sym}
use Rattle.std.proofs.lemmas.List.{take_all}
use Rattle.wesl_tree_base.specs.declared.ids.NameId.{NameId}
use Rattle.wesl_link_reach.specs.World.Followed.{kept}
use Rattle.wesl_link_reach.specs.Loading.{IsAnswered, kept_look_up}
use Rattle.wesl_link_symbols.proofs.Lists.{contains_first, contains_nil}
use Rattle.wesl_link_reach.proofs.Growing.{first_more, element_of}
use Rattle.wesl_link_reach.proofs.Following.{grows_itself, grows_trans, adds_itself, adds_trans}
use Rattle.wesl_link_reach.proofs.run.follow_kept.Goals as goal

pub loop-name-init : goal.loop-name-init
loop-name-init g c = record {
  sound = c.requires.sound;
  grows = grows_itself c.args.loaded.now;
  answered = λ n h. absurd (contains_nil n h);
  adds = adds_itself (g.L.Loader.hands c.args.loader.now) (g.L.Loader.refuses c.args.loader.now) (g.L.Loader.ready c.args.loader.now);
}

pub follow-requires-clause-sound : goal.follow-requires-clause-sound
follow-requires-clause-sound g c = c.loop-name.invariant.sound

pub follow-requires-clause-followed : goal.follow-requires-clause-followed
follow-requires-clause-followed g c = rw c.path.ensures (kept _ (_, element_of _ _ _ _ c.deref-name-items.ensures.value c.loop-name-test.true, refl))

pub follow-requires-clause-can : goal.follow-requires-clause-can
follow-requires-clause-can g c = inr (c.args.request.now.root, (contains_first c.args.request.now.root _, sym c.path.ensures))

pub loop-name-preserved : goal.loop-name-preserved
loop-name-preserved g c = record {
  sound = c.in_ok-follow.ensures.sound;
  grows = grows_trans _ _ _ c.loop-name.invariant.grows c.in_ok-follow.ensures.grows;
  answered = first_more (λ (n : NameId). IsAnswered c.follow.new.loaded.answers.entries (kept_look_up c.args.request.now.root.path n)) _ _ _ c.loop-name-test.true
      (λ n h. c.in_ok-follow.ensures.grows.answers (kept_look_up c.args.request.now.root.path n) (c.loop-name.invariant.answered n h)) (rw c.path.ensures at c.in_ok-follow.ensures.answered);
  adds = adds_trans c.loop-name.invariant.adds c.in_ok-follow.ensures.adds;
}

pub returns-clause-answered : goal.returns-clause-answered
returns-clause-answered g c = λ n h. c.loop-name.invariant.answered n (rw (take_all _ _ c.loop-name-test.false) (rw c.deref-name-items.ensures.value h))
