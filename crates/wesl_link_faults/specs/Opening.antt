-- What is found at the end, as the code keeps it.
use Rattle.std.specs.Prelude.{◌≡◌, ◌⊎◌, ℕ, slice_get, true, Option, Some, None, List, [], ◌∷◌, Contains, map}
use Rattle.wesl_link_symbols.specs.declared.ids.PathId.{PathId}
use Rattle.wesl_tree_base.specs.declared.ids.NameId.{NameId}
use Rattle.wesl_link_symbols.specs.Tables.{Table}
use Rattle.wesl_link_reach.specs.declared.loader.Loader.{Ghosts}
use Rattle.wesl_link_reach.specs.World.{Task}
use Rattle.wesl_link_reach.specs.Faults as faults
use Rattle.wesl_link_flaws.specs.declared.absence.Absence.{Absence}
use Rattle.wesl_link_faults.specs.declared.loading.Loaded.{Loaded}
use Rattle.wesl_link_faults.specs.declared.open.Fault.{Fault}
use Rattle.wesl_link_faults.specs.declared.open.Fault.TheVariants.{Duplicate, Absent, Missing, Private, Ambiguous, TooMany}
use Rattle.wesl_link_faults.specs.declared.open.Finding.{Finding}
use Rattle.wesl_link_faults.specs.declared.open.Opened.{Opened}
use Rattle.wesl_link_faults.specs.declared.open.OpenError.{OpenError}
use Rattle.wesl_link_faults.specs.declared.open.OpenError.TheVariants.{NoRoom, CrowdedRoot, Memory}
use Rattle.wesl_link_flaws.specs.declared.told.Flaw.{Flaw}
use Rattle.wesl_link_flaws.specs.declared.told.Flaw.TheVariants.{Clash, NoModule, Lacking, Hidden, Unsure}
use Rattle.wesl_link_flaws.specs.declared.told.Told.{Told}
use Rattle.wesl_link_flaws.specs.declared.world.Findings.{Findings}
use Rattle.wesl_link_flaws.specs.Keys.{AreKeys}
use Rattle.wesl_link_faults.specs.Loading.{asked_in, tables_in}
use Rattle.wesl_link_faults.specs.Opened as opened

-- ---- a finding, as it is told

-- the flaw of a fault
abbrev pub flaw_of : Fault → Flaw NameId
flaw_of (Duplicate n) = Clash n
flaw_of (Absent k) = NoModule
flaw_of (Missing n) = Lacking n
flaw_of (Private n) = Hidden n
flaw_of (Ambiguous n) = Unsure n
flaw_of TooMany = NoModule

abbrev pub told_of : Finding → Told PathId NameId
told_of f = record { flaw = flaw_of f.fault; asker = f.asker; at = f.at }

-- the number of an absence is the path's, and a path that is one too many has none
abbrev pub IsRightAt : List (PathId × ℕ) → PathId → Fault → Type 0
IsRightAt absent p (Duplicate n) = Unit {0}
IsRightAt absent p (Absent k) = Contains absent (p, k)
IsRightAt absent p (Missing n) = Unit {0}
IsRightAt absent p (Private n) = Unit {0}
IsRightAt absent p (Ambiguous n) = Unit {0}
IsRightAt absent p TooMany = (k : ℕ) → Contains absent (p, k) → ⊥

-- so it is of each finding
abbrev pub AreRight : List (PathId × ℕ) → List Finding → Type 0
AreRight absent fs = (f : Finding) → Contains fs f → IsRightAt absent f.at f.fault

-- the fault at the path is this flaw there
abbrev pub IsFaultOf : List (PathId × ℕ) → PathId → Flaw NameId → Fault → Type 0
IsFaultOf absent p g f = (flaw_of f ≡ g) × IsRightAt absent p f

-- the path is added, unless it took a place
pub record HasPassed (asked : List PathId) (p : PathId) (from to : List PathId) : Type 0 where
  pub kept : (q : PathId) → Contains from q → Contains to q
  pub only : (q : PathId) → Contains to q → Contains from q ⊎ ((q ≡ p) × (Contains asked p → ⊥))
  pub there : Contains asked p ⊎ Contains to p

-- these of the paths took no place
pub record AreBeyond (asked entered beyond : List PathId) : Type 0 where
  pub only : (p : PathId) → Contains beyond p → Contains entered p × (Contains asked p → ⊥)
  pub all : (p : PathId) → Contains entered p → Contains asked p ⊎ Contains beyond p

module _ {E : Type 0} where
  -- the root alone
  pub record IsBegun (root : Table PathId NameId) (s : Loaded E) : Type 0 where
    pub tables : tables_in s ≡ root ∷ []
    pub keys : AreKeys s.asked
    pub asked : asked_in s ≡ root.path ∷ []
    pub absent : s.absent.entries ≡ []

  -- what is found, of what is loaded
  pub record IsFinished (s : Loaded E) (r : Findings) (k : Opened E) : Type 0 where
    pub tables : k.tables.items ≡ tables_in s
    pub asked : k.asked.items ≡ asked_in s
    pub absences : k.absences.items ≡ s.absences.items
    pub same : map told_of k.told.items ≡ r.told.items
    pub right : AreRight s.absent.entries k.told.items
    pub beyond : AreBeyond (asked_in s) r.entered.items k.beyond.items

  -- ---- as a user sees it

  -- a path is refused for its absence
  abbrev pub absent_fault : PathId → Option (Absence E) → faults.Fault PathId NameId (Absence E)
  absent_fault p None = faults.too_many_flags p
  absent_fault p (Some e) = faults.refused e

  abbrev pub fault_at : List (Absence E) → ℕ → PathId → Fault → faults.Fault PathId NameId (Absence E)
  fault_at es limit p (Duplicate n) = faults.duplicate p n
  fault_at es limit p (Absent k) = absent_fault p (slice_get es k)
  fault_at es limit p (Missing n) = faults.missing p n
  fault_at es limit p (Private n) = faults.private n p
  fault_at es limit p (Ambiguous n) = faults.ambiguous n
  fault_at es limit p TooMany = faults.too_many limit

  abbrev pub finding_of : List (Absence E) → ℕ → Finding → opened.Finding PathId NameId E
  finding_of es limit f = record { fault = fault_at es limit f.at f.fault; asker = f.asker; at = f.at }

  -- what is found, over that limit
  abbrev pub opened_in : ℕ → Opened E → opened.Opened PathId NameId E
  opened_in limit k = record {
    tables = k.tables.items;
    asked = k.asked.items;
    told = map (finding_of k.absences.items limit) k.told.items;
    beyond = k.beyond.items;
  }

-- all is found, over the loader
abbrev pub IsOpenedOver : {L E : Type 0} → Ghosts L E → L → Table PathId NameId → Task PathId NameId → ℕ → Opened E → Type 0
IsOpenedOver g l root task limit k = opened.IsOpened (g.hands l) (g.refuses l) root task limit (opened_in limit k)

-- why there is no root to begin with
abbrev pub IsRefusal : Table PathId NameId → ℕ → OpenError → Type 0
IsRefusal root limit NoRoom = limit ≡ 0
IsRefusal root limit CrowdedRoot = root.is_crowded ≡ true
IsRefusal root limit Memory = Unit {0}
