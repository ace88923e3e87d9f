use Rattle.std.proofs.Common.{length, ◌≤◌, ◌-◌, ◌^◌}
use Rattle.wesl_link_reach.specs.Loader.{OnlyAdds}
use Rattle.wesl_link_reach.specs.Loading.{IsSound, Grows, ModulesDone, world_of}
use Rattle.wesl_link_reach.proofs.run.take_modules.Given as goal

abbrev pub invariant-modules : goal.invariant-modules
invariant-modules g l = record {
  sound : IsSound (g.L.Loader.hands l.loader) (g.L.Loader.ready l.loader) l.request l.loaded;
  grows : Grows l.fn.loaded l.loaded;
  within : l.place ≤ length (world_of l.request l.loaded);
  done : ModulesDone l.request l.loaded l.place;
  adds : OnlyAdds (g.L.Loader.hands l.fn.loader) (g.L.Loader.refuses l.fn.loader) (g.L.Loader.ready l.fn.loader) (g.L.Loader.hands l.loader) (g.L.Loader.refuses l.loader) (g.L.Loader.ready l.loader);
}

abbrev pub decreases-modules : goal.decreases-modules
decreases-modules g l = 2 ^ 64 - l.place
