use Rattle.std.proofs.Common.{take, Contains}
use Rattle.wesl_link_symbols.specs.declared.ids.PathId.{PathId}
use Rattle.wesl_link_reach.specs.Loader.{OnlyAdds}
use Rattle.wesl_link_faults.specs.Loading.{HasPlace, IsLoaded, Moves}
use Rattle.wesl_link_faults.proofs.loading.ask_all.Given as goal

abbrev pub invariant-loop-path : goal.invariant-loop-path
invariant-loop-path g l = record {
  sound : IsLoaded (g.L.Loader.hands l.loader) (g.L.Loader.refuses l.loader) (g.L.Loader.ready l.loader) l.wanted l.loaded;
  moves : Moves l.fn.loaded l.loaded;
  there : (p : PathId) → Contains (take l.path-index l.paths) p → HasPlace l.wanted l.loaded p;
  adds : OnlyAdds (g.L.Loader.hands l.fn.loader) (g.L.Loader.refuses l.fn.loader) (g.L.Loader.ready l.fn.loader) (g.L.Loader.hands l.loader) (g.L.Loader.refuses l.loader) (g.L.Loader.ready l.loader);
}
