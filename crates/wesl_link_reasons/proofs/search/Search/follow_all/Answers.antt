use Rattle.std.proofs.Common.{refl, Contains}
use Rattle.std.proofs.lemmas.List.{take_all}
use Rattle.wesl_link_symbols.specs.declared.ids.PathId.{PathId}
use Rattle.wesl_tree_base.specs.declared.ids.NameId.{NameId}
use Rattle.wesl_link_symbols.specs.declared.symbols.LookUp.{LookUp}
use Rattle.wesl_link_reach.proofs.Growing.{first_more, element_of}
use Rattle.wesl_link_reasons.specs.Searching.{world_in, task_in}
use Rattle.wesl_link_reasons.proofs.Passing.{way_on}
use Rattle.wesl_link_reasons.proofs.Taking.{grows_trans}
use Rattle.wesl_link_reasons.proofs.search.Search.follow_all.Goals as goal

pub follow-requires-clause-way : goal.follow-requires-clause-way
follow-requires-clause-way c =
    way_on (world_in c.args.map.now) (task_in c.args.map.now) c.loop-look_up.invariant.grows.found c.args.asker _ (c.requires.ways _ (element_of _ _ _ _ refl c.loop-look_up-test.true))

pub loop-look_up-preserved : goal.loop-look_up-preserved
loop-look_up-preserved c = record {
  sound = c.in_ok-follow.ensures.sound;
  grows = grows_trans _ _ _ c.loop-look_up.invariant.grows c.in_ok-follow.ensures.grows;
  through = c.in_ok-follow.ensures.through;
  followed = first_more (λ (l : LookUp PathId NameId). Contains c.follow.new.self.trail l) _ _ _ c.loop-look_up-test.true
      (λ l h. c.in_ok-follow.ensures.grows.trail l (c.loop-look_up.invariant.followed l h)) c.in_ok-follow.ensures.followed;
}

pub returns-clause-followed : goal.returns-clause-followed
returns-clause-followed c = λ l h. c.loop-look_up.invariant.followed l (rw (take_all _ _ c.loop-look_up-test.false) h)
