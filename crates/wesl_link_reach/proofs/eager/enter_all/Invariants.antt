use Rattle.std.proofs.Common.{take, Contains}
use Rattle.wesl_link_symbols.specs.declared.ids.PathId.{PathId}
use Rattle.wesl_tree_base.specs.declared.ids.NameId.{NameId}
use Rattle.wesl_link_symbols.specs.Tables.{Table}
use Rattle.wesl_link_reach.specs.World.{IsAt}
use Rattle.wesl_link_reach.specs.Loader.{OnlyAdds}
use Rattle.wesl_link_reach.specs.Loading.{IsSound, Grows, world_of}
use Rattle.wesl_link_reach.proofs.eager.enter_all.Given as goal

abbrev pub invariant-loop-path : goal.invariant-loop-path
invariant-loop-path g l = record {
  sound : IsSound (g.L.Loader.hands l.loader) (g.L.Loader.ready l.loader) l.request l.loaded;
  grows : Grows l.fn.loaded l.loaded;
  there : (p : PathId) → Contains (take l.path-index l.paths) p → (t : Table PathId NameId) × IsAt (world_of l.request l.loaded) p t;
  adds : OnlyAdds (g.L.Loader.hands l.fn.loader) (g.L.Loader.refuses l.fn.loader) (g.L.Loader.ready l.fn.loader) (g.L.Loader.hands l.loader) (g.L.Loader.refuses l.loader) (g.L.Loader.ready l.loader);
}
