use Rattle.std.proofs.Common.{◌≡◌, ℕ, ◌<◌, slice_get, Some}
use Rattle.wesl_link_symbols.specs.declared.ids.PathId.{PathId}
use Rattle.wesl_tree_base.specs.declared.ids.NameId.{NameId}
use Rattle.wesl_link_symbols.specs.declared.symbols.Import.{Import}
use Rattle.wesl_link_flaws.specs.declared.asker.Asker.TheVariants.{Imported}
use Rattle.wesl_link_flaws.specs.Searching.{Grows, IsBrought, IsSound}
use Rattle.wesl_link_flaws.proofs.search.Search.bring_imports.Given as goal

abbrev pub invariant-loop-number : goal.invariant-loop-number
invariant-loop-number l = record {
  sound : IsSound l.given l.self;
  grows : Grows l.fn.self l.self;
  brought : (k : ℕ) (i : Import PathId NameId) → k < l.number → slice_get l.import-items k ≡ Some i → IsBrought l.given l.self (Imported l.table.path k) i.path;
}
