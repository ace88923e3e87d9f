use Rattle.std.proofs.Common.{refl}
use Rattle.wesl_link_reach.specs.World.Entered.{root}
use Rattle.wesl_link_flaws.proofs.Closing.{searched}
use Rattle.wesl_link_flaws.proofs.Searching.{grows_trans, on_has, followed_on}
use Rattle.wesl_link_flaws.proofs.search.Search.run.Goals as goal

pub enter-requires-clause-entered : goal.enter-requires-clause-entered
enter-requires-clause-entered c = root c.args.given.now.root refl

pub returns : goal.returns
returns c = record {
  searched = searched c.args.given.now c.take_all.new.self c.in_ok-take_all.ensures.sound
      (on_has _ _ _ (grows_trans _ _ _ c.in_ok-follow_kept.ensures.grows c.in_ok-take_all.ensures.grows).entered c.in_ok-enter.ensures.there)
      (λ n h. followed_on c.args.given.now _ _ _ _ c.in_ok-take_all.ensures.grows (c.in_ok-follow_kept.ensures.followed n h))
      c.in_ok-take_all.ensures.modules c.in_ok-take_all.ensures.symbols;
}
