-- The modules of a link, and what a link of them promises.
use Rattle.std.specs.Prelude.{◌≡◌, ◌⊎◌, ◌↔◌, ℕ, ◌+◌, length, Bool, true, List, ◌∷◌, Contains, map}
use Rattle.std.specs.List.{AllAdjacentBelow}
use Rattle.wesl_tree_names.specs.Path.{Text, Path, is_relative}
use Rattle.wesl_tree_names.specs.PathOrder.{path_before}
use Rattle.wesl_tree_names.specs.Errors.{resolver_is_memory}
use Rattle.wesl_tree_names.specs.declared.errors.ResolveError as resolve_error
use Rattle.wesl_tree_syntax.specs.Unit.{UnitOf}
use Rattle.wesl_link_symbols.specs.declared.symbols.Symbol.{Symbol}
use Rattle.wesl_link_symbols.specs.Tables.{Table}
use Rattle.wesl_link_reach.specs.World.{Task, Entered, Reached}
use Rattle.wesl_link_reach.specs.Faults.{Fault, refused, Stands, AreDistinct}
use Rattle.wesl_link_tables.specs.Tables.{table_at}

-- a unit that stands at a path
pub record Module : Type 0 where
  pub path : Path
  pub unit : UnitOf Text

-- the symbol table of a module
abbrev pub table : Module → Table Path Text
table m = table_at m.path m.unit

-- the symbol tables of modules, in their order
abbrev pub tables : List Module → List (Table Path Text)
tables w = map table w

-- the root's unit is the one given, every other was handed out at its path, and no path has two units
pub record IsWorld (hands : Path → UnitOf Text → Type 0) (root : Module) (w : List Module) : Type 0 where
  pub root_in : Contains w root
  pub handed : (m : Module) → Contains w m → (m ≡ root) ⊎ hands m.path m.unit
  pub one_unit : (m n : Module) → Contains w m → Contains w n → m.path ≡ n.path → m ≡ n
  pub no_relative : (m : Module) → Contains w m → is_relative m.path ≡ true → ⊥

-- what is linked: the names that are kept of the root, or all that is declared
abbrev pub task_of : Module → List Text → Bool → Task Path Text
task_of root keep is_eager = record { root = root.path; kept = keep; is_eager = is_eager }

-- as many were taken as there are modules and reached symbols, each counted once
abbrev pub TakesTurns : List Module → Task Path Text → ℕ → Type 0
TakesTurns w task taken = (ss : List (Symbol Path Text)) × AreDistinct ss × ((s : Symbol Path Text) → Contains ss s ↔ Reached (tables w) task s) × (taken ≡ length w + length ss)

-- A link that succeeds: a world of exactly the entered paths, in which no fault stands. Each module and each reached symbol
-- was taken once.
pub record IsLinked {E : Type 0} (hands : Path → UnitOf Text → Type 0) (refuses : Path → E → Type 0) (root : Module) (task : Task Path Text) (limit taken : ℕ) (w : List Module) : Type 0 where
  pub world : IsWorld hands root w
  pub once : AreDistinct (map (λ m. m.path) w)
  pub paths : (p : Path) → ((m : Module) × Contains w m × (m.path ≡ p)) ↔ Entered (tables w) task p
  pub no_fault : (fault : Fault Path Text E) → Stands refuses task limit (tables w) fault → ⊥
  pub turns : TakesTurns w task taken

-- the root first, and then the others, each before the next in path order
abbrev pub IsModuleOrder : Module → List Module → Type 0
IsModuleOrder root w = (others : List Module) × (w ≡ root ∷ others) × AllAdjacentBelow (λ m n. path_before m.path n.path ≡ true) others (length others)

-- a link that is refused: the fault stands in a world of units that were handed out
abbrev pub IsRefused : {E : Type 0} → (Path → UnitOf Text → Type 0) → (Path → E → Type 0) → Module → Task Path Text → ℕ → Fault Path Text E → Type 0
IsRefused hands refuses root task limit fault = (w : List Module) × IsWorld hands root w × Stands refuses task limit (tables w) fault

-- the resolver wants memory, as it tells it or as what its refusal holds
abbrev pub IsWantOfMemory : Fault Path Text resolve_error.ResolveError → Type 0
IsWantOfMemory (refused e) = resolver_is_memory e ≡ true
IsWantOfMemory _ = ⊥

-- no fault can stand, whatever is handed out, but that the resolver wants memory
abbrev pub IsFaultless : (Path → UnitOf Text → Type 0) → (Path → resolve_error.ResolveError → Type 0) → Module → Task Path Text → ℕ → Type 0
IsFaultless hands refuses root task limit =
    (fault : Fault Path Text resolve_error.ResolveError) → IsRefused hands refuses root task limit fault → IsWantOfMemory fault
