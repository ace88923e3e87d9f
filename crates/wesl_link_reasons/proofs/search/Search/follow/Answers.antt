use Rattle.std.proofs.Common.{inl, inr, refl, Some}
use Rattle.wesl_link_reasons.specs.Searching.{world_in, task_in}
use Rattle.wesl_link_reasons.proofs.Passing.{through_next}
use Rattle.wesl_link_reasons.proofs.Taking.{grows_itself, grows_trans, started_on}
use Rattle.wesl_link_reasons.proofs.search.Search.follow.Goals as goal

pub hops-init : goal.hops-init
hops-init c = record {
  sound = c.requires.sound;
  grows = grows_itself _;
  way = c.requires.way;
  through = through_next (world_in c.args.map.now) (task_in c.args.map.now) _ _ (Some c.args.start) c.requires.through;
  started = inr refl;
}

pub hops-preserved : goal.hops-preserved
hops-preserved c = record {
  sound = c.in_ok-next.ensures.sound;
  grows = grows_trans _ _ _ c.hops.invariant.grows c.in_ok-next.ensures.grows;
  way = rw c.in-Some.is at c.in_ok-next.ensures.way;
  through = rw c.in-Some.is at c.in_ok-next.ensures.through;
  started = inl (started_on _ _ c.in_ok-next.ensures.grows.trail c.args.start _ c.hops.invariant.started c.in_ok-next.ensures.followed);
}

pub returns-in-None-clause-through : goal.returns-in-None-clause-through
returns-in-None-clause-through c = rw c.in-None.is at c.in_ok-next.ensures.through
