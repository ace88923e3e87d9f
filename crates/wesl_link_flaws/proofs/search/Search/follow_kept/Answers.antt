use Rattle.std.proofs.lemmas.List.{take_all}
use Rattle.wesl_tree_base.specs.declared.ids.NameId.{NameId}
use Rattle.wesl_link_reach.specs.Loading.{kept_look_up}
use Rattle.wesl_link_reach.proofs.Growing.{first_more}
use Rattle.wesl_link_flaws.specs.declared.asker.Asker.TheVariants.{Kept}
use Rattle.wesl_link_flaws.specs.Searching.{IsFollowed}
use Rattle.wesl_link_flaws.proofs.Searching.{grows_trans, followed_on}
use Rattle.wesl_link_flaws.proofs.search.Search.follow_kept.Goals as goal

pub loop-name-preserved : goal.loop-name-preserved
loop-name-preserved c = record {
  sound = c.in_ok-follow.ensures.sound;
  grows = grows_trans _ _ _ c.loop-name.invariant.grows c.in_ok-follow.ensures.grows;
  followed = first_more (λ (n : NameId). IsFollowed c.args.given.now c.follow.new.self (Kept n) (kept_look_up c.args.given.now.root n)) _ _ _ c.loop-name-test.true
      (λ n h. followed_on c.args.given.now _ _ _ _ c.in_ok-follow.ensures.grows (c.loop-name.invariant.followed n h)) c.in_ok-follow.ensures.followed;
}

pub returns-clause-followed : goal.returns-clause-followed
returns-clause-followed c = λ n h. c.loop-name.invariant.followed n (rw (take_all _ _ c.loop-name-test.false) h)
