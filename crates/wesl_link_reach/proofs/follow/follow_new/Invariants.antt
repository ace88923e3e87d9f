use Rattle.std.proofs.Common.{vec_len, ◌-◌, ◌^◌}
use Rattle.wesl_link_reach.specs.Loader.{OnlyAdds}
use Rattle.wesl_link_reach.specs.Loading.{IsSound, CanEnter, Grows, world_of, task_at}
use Rattle.wesl_link_reach.proofs.Following.{IsTrail, IsBound}
use Rattle.wesl_link_reach.proofs.follow.follow_new.Given as goal

abbrev pub invariant-hops : goal.invariant-hops
invariant-hops g l = record {
  sound : IsSound (g.L.Loader.hands l.loader) (g.L.Loader.ready l.loader) l.request l.loaded;
  grows : Grows l.fn.loaded l.loaded;
  trail : IsTrail (world_of l.request l.loaded) (task_at l.request) l.fn.start l.trail.asked.items l.trail.questions.keys l.current;
  bound : IsBound l.loaded.trodden.steps l.trail.asked.items l.trail.bound;
  can : CanEnter (g.L.Loader.ready l.loader) (world_of l.request l.loaded) l.current.path;
  adds : OnlyAdds (g.L.Loader.hands l.fn.loader) (g.L.Loader.refuses l.fn.loader) (g.L.Loader.ready l.fn.loader) (g.L.Loader.hands l.loader) (g.L.Loader.refuses l.loader) (g.L.Loader.ready l.loader);
}

abbrev pub decreases-hops : goal.decreases-hops
decreases-hops g l = 2 ^ 64 - vec_len l.trail.asked
