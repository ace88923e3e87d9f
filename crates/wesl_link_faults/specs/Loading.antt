-- What stands while modules are loaded.
use Rattle.std.specs.Prelude.{◌≡◌, ◌⊎◌, ℕ, ◌≤◌, ◌<◌, length, slice_get, false, Some, List, [], ◌∷◌, ◌++◌, Contains}
use Rattle.wesl_link_symbols.specs.declared.ids.PathId.{PathId}
use Rattle.wesl_tree_base.specs.declared.ids.NameId.{NameId}
use Rattle.wesl_link_symbols.specs.Keyed.{Puts, PutsKey}
use Rattle.wesl_link_symbols.specs.Tables.{Table}
use Rattle.wesl_link_reach.specs.declared.loader.Loader.{Ghosts}
use Rattle.wesl_link_reach.specs.World.{IsAt, IsWorld, Task, Entered}
use Rattle.wesl_link_reach.specs.Faults.{AreDistinct}
use Rattle.wesl_link_reach.specs.Linking.{paths}
use Rattle.wesl_link_reach.specs.Loader.{IsReady}
use Rattle.wesl_link_reach.specs.Loading.{GoesOn}
use Rattle.wesl_link_flaws.specs.declared.absence.Absence.{Absence}
use Rattle.wesl_link_faults.specs.declared.loading.Loaded.{Loaded}
use Rattle.wesl_link_faults.specs.declared.loading.Wanted.{Wanted}
use Rattle.wesl_link_flaws.specs.Flaws.{IsBare}
use Rattle.wesl_link_flaws.specs.Found.{task_from}
use Rattle.wesl_link_flaws.specs.Keys.{AreKeys}
use Rattle.wesl_link_faults.specs.Opened.{HandsRoomy, IsAbsent}

-- what is linked
abbrev pub task_wanted : Wanted → Task PathId NameId
task_wanted w = task_from w.root w.kept.items w.is_eager

-- the path of each of the modules is entered
abbrev pub AreEntered : List (Table PathId NameId) → Task PathId NameId → Type 0
AreEntered w task = (t : Table PathId NameId) → Contains w t → Entered w task t.path

module _ {E : Type 0} where
  -- the modules that are loaded
  abbrev pub tables_in : Loaded E → List (Table PathId NameId)
  tables_in s = s.tables.items

  -- the paths that took a place
  abbrev pub asked_in : Loaded E → List PathId
  asked_in s = s.asked.list.items

  -- the path took a place, or there is no room
  abbrev pub HasPlace : Wanted → Loaded E → PathId → Type 0
  HasPlace w s p = Contains (asked_in s) p ⊎ (w.limit ≤ length (asked_in s))

  -- so it is of each of the paths
  abbrev pub HavePlaces : Wanted → Loaded E → List PathId → Type 0
  HavePlaces w s ps = (p : PathId) → Contains ps p → HasPlace w s p

  -- the absence with that number is one of the path
  abbrev pub IsNumbered : (PathId → Absence E → Type 0) → List (Absence E) → PathId → ℕ → Type 0
  IsNumbered absent es p k = (e : Absence E) × (slice_get es k ≡ Some e) × absent p e

  -- the path took a place with this module
  pub record PutsTable (p : PathId) (t : Table PathId NameId) (from to : Loaded E) : Type 0 where
    pub keys : AreKeys to.asked
    pub asked : PutsKey (asked_in from) p (asked_in to)
    pub tables : tables_in to ≡ tables_in from ++ t ∷ []
    pub absences : to.absences.items ≡ from.absences.items
    pub absent : to.absent.entries ≡ from.absent.entries

  -- the path took a place without a module, for this absence
  pub record PutsAbsent (p : PathId) (e : Absence E) (from to : Loaded E) : Type 0 where
    pub keys : AreKeys to.asked
    pub asked : PutsKey (asked_in from) p (asked_in to)
    pub tables : tables_in to ≡ tables_in from
    pub absences : to.absences.items ≡ from.absences.items ++ e ∷ []
    pub absent : Puts from.absent.entries p (length from.absences.items) to.absent.entries

  -- modules and places were added at the end; where no place was, nothing changed
  pub record Moves (from to : Loaded E) : Type 0 where
    pub tables : GoesOn (tables_in from) (tables_in to)
    pub asked : GoesOn (asked_in from) (asked_in to)
    pub quiet : (to ≡ from) ⊎ (length (asked_in from) < length (asked_in to))

-- The modules make a world of roomy modules that were handed out, the root's first; each path that took a place is entered, and
-- has a module or an absence; and the loader may be asked for all that the modules ask for.
pub record IsLoaded {E : Type 0} (hands : PathId → Table PathId NameId → Type 0) (refuses : PathId → E → Type 0) (ready : PathId → Type 0)
    (w : Wanted) (s : Loaded E) : Type 0 where
  pub root : Table PathId NameId
  pub others : List (Table PathId NameId)
  pub root_first : tables_in s ≡ root ∷ others
  pub root_at : root.path ≡ w.root
  pub roomy : root.is_crowded ≡ false
  pub world : IsWorld (HandsRoomy hands refuses) root (tables_in s)
  pub once : AreDistinct (paths (tables_in s))
  pub asks_ready : (t : Table PathId NameId) → Contains (tables_in s) t → IsReady ready t
  pub tables_asked : (t : Table PathId NameId) → Contains (tables_in s) t → Contains (asked_in s) t.path
  pub keys : AreKeys s.asked
  pub entered : (p : PathId) → Contains (asked_in s) p → Entered (tables_in s) (task_wanted w) p
  pub room : length (asked_in s) ≤ w.limit
  pub placed : (p : PathId) → Contains (asked_in s) p → ((t : Table PathId NameId) × IsAt (tables_in s) p t) ⊎ ((k : ℕ) × Contains s.absent.entries (p, k))
  pub numbered : (p : PathId) (k : ℕ) → Contains s.absent.entries (p, k) → IsNumbered (IsAbsent hands refuses) s.absences.items p k
  pub absent_asked : (p : PathId) (k : ℕ) → Contains s.absent.entries (p, k) → Contains (asked_in s) p
  pub bare : (p : PathId) (k : ℕ) → Contains s.absent.entries (p, k) → IsBare (tables_in s) p
  pub single : (p : PathId) (k j : ℕ) → Contains s.absent.entries (p, k) → Contains s.absent.entries (p, j) → k ≡ j

-- so it is over the loader
abbrev pub IsLoadedOver : {L E : Type 0} → Ghosts L E → L → Wanted → Loaded E → Type 0
IsLoadedOver g l w s = IsLoaded (g.hands l) (g.refuses l) (g.ready l) w s
