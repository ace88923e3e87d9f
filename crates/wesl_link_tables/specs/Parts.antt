-- What a table is made of, while it is made.
use Rattle.std.specs.Prelude.{◌≡◌, true, false, Option, Some, None, List, [], map}
use Rattle.wesl_tree_names.specs.Path.{Text, Path}
use Rattle.wesl_tree_syntax.specs.Unit.{UnitOf, UnitView, spelled}
use Rattle.wesl_scope_occurrences.specs.Pieces.{declarations_in}
use Rattle.wesl_cond_choices.specs.declared.place.Place.{Place}
use Rattle.wesl_tree_base.specs.declared.ids.NameId.{NameId}
use Rattle.wesl_link_symbols.specs.declared.ids.PathId.{PathId}
use Rattle.wesl_link_symbols.specs.Tables.{Declaration, Table}
use Rattle.wesl_link_symbols.specs.declared.symbols.Import.{Import}
use Rattle.wesl_cond_alive.specs.Alive.{alive_of}
use Rattle.wesl_link_split.specs.Grouped.{ids}
use Rattle.wesl_link_split.specs.ScopeView.{scope_view}
use Rattle.wesl_link_split.specs.Split as split
use Rattle.wesl_link_split.specs.declared.binders.Binder.{Binder}
use Rattle.wesl_link_split.specs.declared.split.Scope.{Scope}
use Rattle.wesl_link_tables.specs.Marks.{AreMarked}
use Rattle.wesl_link_tables.specs.Numbering.{Numbering, AreRelated, AreNumberedImports, AreNumberedDeclarations, NameAt}
use Rattle.wesl_link_tables.specs.Reading.{AreNumbersOfNames}
use Rattle.wesl_link_tables.specs.Split.{binders_by, alive_if, crowded_if, has_many_flags}
use Rattle.wesl_link_tables.specs.Tables.{uses, table_at}
use Rattle.wesl_link_tables.specs.declared.marks.Marked.{Marked}
use Rattle.wesl_link_tables.specs.declared.table.Declared.{Declared}
use Rattle.wesl_link_tables.specs.declared.table.Parts.{Parts}
use Rattle.wesl_link_tables.specs.declared.table.Scoped.{Scoped}
use Rattle.wesl_link_tables.specs.declared.table.UnitNumbers.{UnitNumbers}

-- nothing has a number
pub record IsUnnumbered (n : UnitNumbers) : Type 0 where
  pub imports : n.imports.items ≡ []
  pub ids : n.ids.items ≡ []
  pub names : n.names.items ≡ []

-- the numbers of these imports, of the names of a unit, and of those that its declarations bind
pub record IsNumberedUnit (nb : Numbering) (js : List (Import Path Text)) (u : UnitView) (n : UnitNumbers) : Type 0 where
  pub imports : AreNumberedImports nb n.imports.items js
  pub ids : AreRelated (NameAt nb) n.ids.items u.names
  pub names : AreNumbersOfNames nb n.names.items (declarations_in (spelled u))

-- the binders of a unit by its numbers
abbrev pub binders_in : PathId → UnitNumbers → List (Binder PathId NameId)
binders_in own n = binders_by own n.names.items n.imports.items

-- the same module, of which each choice of flags keeps these places
abbrev pub with_alive : split.Scope PathId NameId → List (List Place) → split.Scope PathId NameId
with_alive s alive = record { own = s.own; binders = s.binders; alive = alive }

-- what the names of the unit stand for that stands at the path with this number, and whether it has too many flags
pub record IsScoped (own : PathId) (n : UnitNumbers) (u : UnitOf Text) (s : Scoped) : Type 0 where
  pub scope : scope_view s.scope ≡ record { own = own; binders = binders_in own n; alive = alive_if (split.has_split ids (binders_in own n)) u }
  pub crowded : s.is_crowded ≡ crowded_if (split.has_split ids (binders_in own n)) u

-- of each choice of a unit's flags what it keeps, or nothing where there are too many flags
abbrev pub IsKeptBy : UnitOf Text → Option (List (List Place)) → Type 0
IsKeptBy u (Some alive) = (has_many_flags u ≡ false) × (alive ≡ alive_of u)
IsKeptBy u None = has_many_flags u ≡ true

-- imports as the table has them
abbrev pub settled_in : Scope → List (Import PathId NameId) → List (Import PathId NameId)
settled_in s is = map (split.settled ids (scope_view s)) is

-- the declaration that binds this name, if it binds one, and is seen from there, with what its identifiers ask for
abbrev pub declared_as : Option NameId → Place → Marked → Declaration PathId NameId
declared_as name place marked = record { name = name; place = place; references = marked.asked.references.items; unclear = marked.asked.unclear.items }

-- the table of the module with this number that has these parts, and whose names stand for this
abbrev pub table_made : PathId → Parts → Scoped → Table PathId NameId
table_made id parts scoped = record {
  path = id;
  imports = parts.imports.items;
  declarations = parts.declared.declarations.items;
  alive = (scope_view scoped.scope).alive;
  is_crowded = scoped.is_crowded;
}

-- nothing is declared
pub record IsUndeclared (d : Declared) : Type 0 where
  pub declarations : d.declarations.items ≡ []
  pub marks : d.marks.items ≡ []

-- the declarations of a unit that stands at this path, and the marks of their identifiers
pub record IsDeclared (nb : Numbering) (own : Path) (u : UnitOf Text) (d : Declared) : Type 0 where
  pub declared : AreNumberedDeclarations nb d.declarations.items (table_at own u).declarations
  pub marked : AreMarked nb d.marks.items (uses own u)
