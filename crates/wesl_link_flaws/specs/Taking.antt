-- What a search takes, and what it has when it has ended.
use Rattle.std.specs.Prelude.{◌≡◌, ◌↔◌, ℕ, ◌<◌, length, slice_get, Some, List, Contains}
use Rattle.wesl_link_symbols.specs.declared.ids.PathId.{PathId}
use Rattle.wesl_tree_base.specs.declared.ids.NameId.{NameId}
use Rattle.wesl_link_symbols.specs.declared.symbols.Symbol.{Symbol}
use Rattle.wesl_link_symbols.specs.Tables.{Declaration, Table}
use Rattle.wesl_link_reach.specs.World.{Task, Entered, Reached}
use Rattle.wesl_link_reach.specs.Faults.{AreDistinct}
use Rattle.wesl_link_flaws.specs.declared.told.Told.{Told}
use Rattle.wesl_link_flaws.specs.declared.given.Given.{Given}
use Rattle.wesl_link_flaws.specs.declared.search.Search.{Search}
use Rattle.wesl_link_flaws.specs.Askers.{IsTaken}
use Rattle.wesl_link_flaws.specs.Flaws.{IsFlaw}
use Rattle.wesl_link_flaws.specs.Searching.{FollowsReferences, IsDeclarationDone, TellsUnclear, task_in, world_in}

-- Q holds of the declaration of the module with that number
abbrev pub OfDeclaration : Table PathId NameId → ℕ → (Declaration PathId NameId → Type 0) → Type 0
OfDeclaration t i Q = (d : Declaration PathId NameId) → slice_get t.declarations i ≡ Some d → Q d

-- so it is of what a search does with a declaration
abbrev pub TellsUnclearAt : Search → Table PathId NameId → ℕ → Type 0
TellsUnclearAt s t i = OfDeclaration t i (TellsUnclear s t i)

abbrev pub FollowsReferencesAt : Given → Search → Table PathId NameId → ℕ → Type 0
FollowsReferencesAt m s t i = OfDeclaration t i (FollowsReferences m s t i)

abbrev pub IsDeclarationDoneAt : Given → Search → Table PathId NameId → ℕ → Type 0
IsDeclarationDoneAt m s t i = OfDeclaration t i (IsDeclarationDone m s t i)

-- the module is in the world, it has a declaration with that number, and that is taken
pub record AreTaken (m : Given) (t : Table PathId NameId) (i : ℕ) : Type 0 where
  pub there : Contains (world_in m) t
  pub within : i < length t.declarations
  pub taken : OfDeclaration t i (λ d. IsTaken (task_in m) (world_in m) t.path d.name)

-- the paths are those that are entered, the symbols those that are reached, and told is exactly what is wrong; each once
pub record AreAll {P N : Type 0} (w : List (Table P N)) (task : Task P N) (ps : List P) (ss : List (Symbol P N)) (fs : List (Told P N)) : Type 0 where
  pub entered : (p : P) → Contains ps p ↔ Entered w task p
  pub reached : (s : Symbol P N) → Contains ss s ↔ Reached w task s
  pub told : (f : Told P N) → Contains fs f ↔ IsFlaw task w f.flaw f.asker f.at
  pub entered_once : AreDistinct ps
  pub reached_once : AreDistinct ss
  pub told_once : AreDistinct fs

-- as the search has ended
abbrev pub IsSearched : Given → Search → Type 0
IsSearched m s = AreAll (world_in m) (task_in m) s.entered.list.items s.symbols.list.items s.told.list.items
