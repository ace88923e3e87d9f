use Rattle.std.proofs.Common.{take, Contains}
use Rattle.wesl_link_symbols.specs.declared.ids.PathId.{PathId}
use Rattle.wesl_tree_base.specs.declared.ids.NameId.{NameId}
use Rattle.wesl_link_symbols.specs.declared.symbols.Symbol.{Symbol}
use Rattle.wesl_link_reach.specs.Loading.{IsSound, Grows}
use Rattle.wesl_link_reach.proofs.eager.hold_all.Given as goal

abbrev pub invariant-loop-symbol : goal.invariant-loop-symbol
invariant-loop-symbol g l = record {
  sound : IsSound (g.L.Loader.hands l.loader) (g.L.Loader.ready l.loader) l.request l.loaded;
  grows : Grows l.fn.loaded l.loaded;
  held : (s : Symbol PathId NameId) → Contains (take l.symbol-index l.symbols) s → Contains l.loaded.symbols.keys s;
}
