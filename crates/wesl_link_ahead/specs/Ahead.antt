-- What was found of a link so far.
use Rattle.std.specs.Prelude.{◌≡◌, ℕ, slice_get, Some, List, Contains}
use Rattle.wesl_link_symbols.specs.declared.ids.PathId.{PathId}
use Rattle.wesl_tree_base.specs.declared.ids.NameId.{NameId}
use Rattle.wesl_link_symbols.specs.declared.symbols.LookUp.{LookUp}
use Rattle.wesl_link_symbols.specs.declared.symbols.Symbol.{Symbol}
use Rattle.wesl_link_symbols.specs.Tables.{Table}
use Rattle.wesl_link_reach.specs.World.{HasMet, Task, Walk, Entered, Reached, Followed}
use Rattle.wesl_link_reach.specs.Trodden.{symbol_of}
use Rattle.wesl_link_ahead.specs.declared.ahead.Ahead.{Ahead}
use Rattle.wesl_link_ahead.specs.declared.ahead.Linking.{Linking}

-- the modules that are there
abbrev pub world_in : Linking → List (Table PathId NameId)
world_in m = m.tables.now

-- what is linked: the root, the names of it that are kept, and whether all that is declared is held
abbrev pub task_in : Linking → Task PathId NameId
task_in m = record { root = m.root; kept = m.kept.now; is_eager = m.is_eager }

-- the path of each module is entered
abbrev pub AreEntered : Linking → Type 0
AreEntered m = (t : Table PathId NameId) → Contains (world_in m) t → Entered (world_in m) (task_in m) t.path

module _ {P N : Type 0} (w : List (Table P N)) (task : Task P N) (asked : List (Symbol P N)) where
  -- a walk of a followed look-up comes to it over questions that were asked
  pub record Comes (l : LookUp P N) : Type 0 where
    pub start : LookUp P N
    pub met : List (LookUp P N)
    pub followed : Followed w task start
    pub walk : Walk w start met l
    pub noted : (b : LookUp P N) → Contains met b → Contains asked (symbol_of b)

  -- so it is, for the first time, and its own question was asked
  pub record IsAsked (l : LookUp P N) : Type 0 where
    pub comes : Comes l
    pub new : HasMet comes.met l → ⊥
    pub here : Contains asked (symbol_of l)

-- the places are those of modules, all that was found is entered and reached, and what waits was asked
pub record IsAhead (w : List (Table PathId NameId)) (task : Task PathId NameId) (s : Ahead) : Type 0 where
  pub placed : (p : PathId) (k : ℕ) → Contains s.places.entries (p, k) → (t : Table PathId NameId) × (slice_get w k ≡ Some t) × (t.path ≡ p)
  pub entered : (p : PathId) → Contains s.entered p → Entered w task p
  pub reached : (x : Symbol PathId NameId) → Contains s.symbols x → Reached w task x
  pub waiting : (l : LookUp PathId NameId) → Contains s.waiting.items l → IsAsked w task s.asked l

-- so it is of these modules
abbrev pub IsAheadIn : Linking → Ahead → Type 0
IsAheadIn m s = IsAhead (world_in m) (task_in m) s

-- as the search stands: a walk comes to the look-up
abbrev pub ComesTo : Linking → Ahead → LookUp PathId NameId → Type 0
ComesTo m s l = Comes (world_in m) (task_in m) s.asked l

-- as the search stands: the look-up was asked
abbrev pub IsAskedIn : Linking → Ahead → LookUp PathId NameId → Type 0
IsAskedIn m s l = IsAsked (world_in m) (task_in m) s.asked l

-- each question that was asked stays asked
abbrev pub KeepsAsked : Ahead → Ahead → Type 0
KeepsAsked from to = (q : Symbol PathId NameId) → Contains from.asked q → Contains to.asked q
