-- Rows of imports, as the code holds them.
use Rattle.std.specs.Prelude.{◌≡◌, true, false, List, map, flat_map, option_to_list}
use Rattle.std.specs.List.Sorted.{IsPermutation}
use Rattle.wesl_cond_choices.specs.declared.place.Place.{Place}
use Rattle.wesl_cond_choices.specs.declared.place.Place.TheVariants.{Always}
use Rattle.wesl_cond_choices.specs.Places.{is_always, together}
use Rattle.wesl_cond_covers.specs.CoversView.{AreCoversOf}
use Rattle.wesl_tree_base.specs.declared.ids.NameId.{NameId}
use Rattle.wesl_link_symbols.specs.declared.ids.PathId.{PathId}
use Rattle.wesl_link_symbols.specs.declared.row.Row.{Row}
use Rattle.wesl_link_symbols.specs.declared.row.Rows.{Rows}
use Rattle.wesl_link_symbols.specs.Tables.{Import, Declaration}

-- its unions are those of the choices that keep its imports
abbrev pub IsCovered : List (List Place) → Row → Type 0
IsCovered alive row = AreCoversOf alive (map (λ i. i.place) row.imports.items) row.covers

-- it has these imports in some order, with the unions of the choices that keep them
pub record IsRowOf (alive : List (List Place)) (imports : List (Import PathId NameId)) (row : Row) : Type 0 where
  pub all : IsPermutation imports row.imports.items
  pub covered : IsCovered alive row

-- an import of the module's own declaration of that name, which stands there
abbrev pub own_import : PathId → NameId → Place → Import PathId NameId
own_import path name place = record { bound = name; path = path; item = name; published = true; place = place; from = Always; order = 0 }

-- such an import of a declaration, where it binds a name
abbrev pub own_imports : PathId → Declaration PathId NameId → List (Import PathId NameId)
own_imports path d = map (λ n. own_import path n d.place) (option_to_list d.name)

-- it has such imports of these declarations
abbrev pub IsDeclaredRow : List (List Place) → PathId → List (Declaration PathId NameId) → Row → Type 0
IsDeclaredRow alive path declarations row = IsRowOf alive (flat_map (own_imports path) declarations) row

-- the rows are of these declarations and of these imports
pub record AreRows (alive : List (List Place)) (path : PathId) (imports : List (Import PathId NameId)) (declarations : List (Declaration PathId NameId)) (rows : Rows) : Type 0 where
  pub declared : IsDeclaredRow alive path declarations rows.declared
  pub imported : IsRowOf alive imports rows.imported

-- the import does not stand everywhere, and is not seen from there
abbrev pub IsUnseen : List (List Place) → Place → Import PathId NameId → Type 0
IsUnseen alive from i = (is_always i.place ≡ false) × (together alive from i.place ≡ false)
