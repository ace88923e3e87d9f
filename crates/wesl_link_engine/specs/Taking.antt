-- The modules of a link, each taken with the unit that is kept for its path.
use Rattle.std.specs.Prelude.{◌≡◌, ℕ, suc, Bool, Option, Some, List, Contains, length, false, slice_get}
use Rattle.std.specs.List.{AllAdjacentBelow}
use Rattle.std.specs.List.Sorted.{IsPermutation}
use Rattle.std.specs.Map.{lookup}
use Rattle.wesl_tree_names.specs.Path.{Path, path_view}
use Rattle.wesl_tree_names.specs.PathOrder.{path_before}
use Rattle.wesl_link_symbols.specs.declared.ids.PathId.{PathId}
use Rattle.wesl_tree_base.specs.declared.ids.NameId.{NameId}
use Rattle.wesl_link_symbols.specs.contracts.ids.PathIdPartialEq.TheImpl as equality
use Rattle.wesl_link_symbols.specs.Tables.{Table}
use Rattle.wesl_link_tables.specs.Numbering.{Numbering, AreRelated, PathAt}
use Rattle.wesl_link_engine.specs.declared.loaded.Held.{Held}
use Rattle.wesl_link_engine.specs.declared.loaded.LoadedModule.{LoadedModule}

-- whether two numbers of paths are equal
abbrev pub path_eq : PathId → PathId → Bool
path_eq = (equality.ghosts).eq

-- each path but this one has what it had
abbrev pub LeavesOthers : {T : Type 0} → PathId → List (PathId × T) → List (PathId × T) → Type 0
LeavesOthers id old new = (p : PathId) → (p ≡ id → ⊥) → lookup (path_eq p) new ≡ lookup (path_eq p) old

-- the unit that is kept for the path
abbrev pub unit_at : List (PathId × Held) → PathId → Option Held
unit_at units p = lookup (path_eq p) units

-- the path of each table has a number, and a unit is kept for it
abbrev pub AreKept : Numbering → List (PathId × Held) → List (Table PathId NameId) → Type 0
AreKept numbering units ts =
    (t : Table PathId NameId) → Contains ts t → ((q : Path) × PathAt numbering t.path q) × ((u : Held) × (unit_at units t.path ≡ Some u))

-- the module's place is that of the table, where one more table stands before these
abbrev pub IsPlaced : List (Table PathId NameId) → Table PathId NameId → LoadedModule → Type 0
IsPlaced ts t m = (i : ℕ) × (m.place ≡ suc i) × (slice_get ts i ≡ Some t)

-- the module has the table's path and place, and the unit that is kept for the path
abbrev pub IsTaken : Numbering → List (PathId × Held) → List (Table PathId NameId) → Table PathId NameId → LoadedModule → Type 0
IsTaken numbering units ts t m = PathAt numbering t.path (path_view m.path) × (unit_at units t.path ≡ Some (record { unit = m.unit; marks = m.marks })) × IsPlaced ts t m

-- the modules stand in path order: none has a path before that of the one in front of it
abbrev pub AreInOrder : List LoadedModule → Type 0
AreInOrder ms = AllAdjacentBelow (λ m n. path_before (path_view n.path) (path_view m.path) ≡ false) ms (length ms)

-- these are the modules of the tables, each taken so, in the order of their paths
abbrev pub AreTaken : Numbering → List (PathId × Held) → List (Table PathId NameId) → List LoadedModule → Type 0
AreTaken numbering units ts ordered =
    (ms : List LoadedModule) × AreRelated (IsTaken numbering units ts) ts ms × IsPermutation ms ordered × AreInOrder ordered
