-- Numbers of paths keep what they say as paths are added.
use Rattle.std.proofs.Common.{◌≡◌, ℕ, zero, suc, ◌<◌, List, [], ◌∷◌, map, length, get_or, arith, refl, ap, ◌∙◌}
use Rattle.wesl_tree_names.specs.Path.{Path}
use Rattle.wesl_tree_names.specs.declared.names.Ident.{Ident}
use Rattle.wesl_link_symbols.specs.declared.ids.PathId.{PathId}
use Rattle.wesl_link_symbols.specs.declared.symbols.Import.{Import}
use Rattle.wesl_link_tables.specs.Base.{base_view, IsKnownBase}
use Rattle.wesl_link_tables.specs.Imports as imports
use Rattle.wesl_link_tables.specs.Numbering.{IsLonger}
use Rattle.wesl_link_tables.specs.Walks.{HavePaths, import_view}
use Rattle.wesl_link_tables.specs.declared.imports.Base.{Base}
use Rattle.wesl_link_tables.specs.declared.imports.Base.TheVariants.{Unset, Nowhere, At}
pub use Rattle.wesl_link_paths.proofs.Lists.{below_held, below_later, path_same}

module _ (ps qs : List Path) (longer : IsLonger ps qs) where
  pub base_later : (b : Base) → IsKnownBase ps b → IsKnownBase qs b
  base_later Unset h = tt
  base_later Nowhere h = tt
  base_later (At p) h = below_later ps qs longer p.0 h

  pub base_same : (b : Base) → IsKnownBase ps b → base_view qs b ≡ base_view ps b
  base_same Unset h = refl
  base_same Nowhere h = refl
  base_same (At p) h = ap imports.to (path_same ps qs longer p h)

  pub found_later : (is : List (Import PathId Ident)) → HavePaths ps is → HavePaths qs is
  found_later is h k d b = below_later ps qs longer (get_or is k d).path.0 (h k d b)

  abbrev at_path : Import PathId Ident → Path → Import Path ℕ
  at_path i p = record { bound = i.bound.0; path = p; item = i.item.0; published = i.published; place = i.place; from = i.from; order = i.order }

  pub import_same : (i : Import PathId Ident) → i.path.0 < length ps → import_view qs i ≡ import_view ps i
  import_same i b = ap (at_path i) (path_same ps qs longer i.path b)

  pub found_same : (is : List (Import PathId Ident)) → HavePaths ps is → map (import_view qs) is ≡ map (import_view ps) is
  found_same [] h = refl
  found_same (i ∷ is) h =
      ap (λ j. j ∷ map (import_view qs) is) (import_same i (h zero i (omega arith))) ∙ ap (λ js. import_view ps i ∷ js) (found_same is (λ k d b. h (suc k) d (omega (arith, b))))
