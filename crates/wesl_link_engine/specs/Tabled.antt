-- Modules that were loaded, and where their symbol tables stand.
use Rattle.std.specs.Prelude.{◌≡◌, Some, List, slice_get}
use Rattle.wesl_link_symbols.specs.declared.ids.PathId.{PathId}
use Rattle.wesl_tree_base.specs.declared.ids.NameId.{NameId}
use Rattle.wesl_link_symbols.specs.Tables.{Table}
use Rattle.wesl_link_tables.specs.Marks.{AreMarked}
use Rattle.wesl_link_tables.specs.Numbering.{Numbering, IsNumbered}
use Rattle.wesl_link_tables.specs.Tables.{uses}
use Rattle.wesl_link_engine.specs.Worlds.{Module, table}
use Rattle.wesl_link_engine.specs.Resolved.{module_at}
use Rattle.wesl_link_engine.specs.declared.loaded.LoadedModule.{LoadedModule}

-- a module that was loaded: its unit, as it is spelled, at its path
abbrev pub module_of : LoadedModule → Module
module_of m = module_at m.path m.unit

-- the marks are those of the identifiers in the module's declarations
abbrev pub IsMarked : Numbering → LoadedModule → Type 0
IsMarked nb m = AreMarked nb m.marks.items (uses (module_of m).path (module_of m).unit)

-- the table of the module stands at its place
abbrev pub IsTabled : Numbering → List (Table PathId NameId) → LoadedModule → Type 0
IsTabled nb ts m = (t : Table PathId NameId) × (slice_get ts m.place ≡ Some t) × IsNumbered nb t (table (module_of m)) × IsMarked nb m
