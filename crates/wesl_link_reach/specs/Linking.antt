-- What a link promises.
use Rattle.std.specs.Prelude.{◌≡◌, ◌↔◌, ℕ, ◌+◌, length, Bool, List, ◌∷◌, Contains, map}
use Rattle.wesl_link_symbols.specs.declared.symbols.Symbol.{Symbol}
use Rattle.wesl_link_symbols.specs.Tables.{Table}
use Rattle.wesl_link_reach.specs.World.{IsAt, IsWorld, Task, Entered, Reached}
use Rattle.wesl_link_reach.specs.Faults.{Fault, Stands, AreDistinct}

-- what is linked: the root's path, the names of it that are kept, and whether all that is declared is held
abbrev pub task_of : {P N : Type 0} → Table P N → List N → Bool → Task P N
task_of root kept is_eager = record { root = root.path; kept = kept; is_eager = is_eager }

-- the paths of modules, in their order
abbrev pub paths : {P N : Type 0} → List (Table P N) → List P
paths w = map (λ t. t.path) w

-- what a link leaves: the modules, the symbols that it holds, and how many turns it took
pub record Linking (P N : Type 0) : Type 0 where
  pub tables : List (Table P N)
  pub symbols : List (Symbol P N)
  pub turns : ℕ

-- a world of exactly the entered paths with exactly the reached symbols, in which no fault stands: each was taken once
pub record IsLinked {P N E : Type 0} (hands : P → Table P N → Type 0) (refuses : P → E → Type 0) (root : Table P N) (task : Task P N) (limit : ℕ) (k : Linking P N) : Type 0 where
  pub world : IsWorld hands root k.tables
  pub root_first : (others : List (Table P N)) × (k.tables ≡ root ∷ others)
  pub tables_once : AreDistinct (paths k.tables)
  pub symbols_once : AreDistinct k.symbols
  pub paths : (p : P) → ((t : Table P N) × IsAt k.tables p t) ↔ Entered k.tables task p
  pub symbols : (s : Symbol P N) → Contains k.symbols s ↔ Reached k.tables task s
  pub no_fault : (fault : Fault P N E) → Stands refuses task limit k.tables fault → ⊥
  pub turns : k.turns ≡ length k.tables + length k.symbols
