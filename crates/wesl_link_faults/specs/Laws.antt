-- Laws of all faults at once.
use Rattle.std.specs.Prelude.{◌≡◌, ◌⊎◌, ◌↔◌, ℕ, ◌<◌, ◌+◌, length, false, List, [], Contains}
use Rattle.wesl_link_symbols.specs.declared.symbols.LookUp.{LookUp}
use Rattle.wesl_link_symbols.specs.declared.symbols.Symbol.{Symbol}
use Rattle.wesl_link_symbols.specs.Tables.{Table}
use Rattle.wesl_link_reach.specs.World.{IsAt, Task, Entered, Reached, Followed}
use Rattle.wesl_link_reach.specs.Faults.{Fault, duplicate, refused, missing, private, too_many, ambiguous, too_many_flags, Stands, Explained, AreDistinct}
use Rattle.wesl_link_reach.specs.Linking.{Linking, IsLinked}
use Rattle.wesl_link_flaws.specs.declared.asker.Asker.{Asker}
use Rattle.wesl_link_flaws.specs.declared.absence.Absence.{Absence}
use Rattle.wesl_link_flaws.specs.declared.absence.Absence.TheVariants.{Crowded}
use Rattle.wesl_link_flaws.specs.Askers.{AsksBy, Brings, StandsBy}
use Rattle.wesl_link_faults.specs.Opened.{Finding, Opened, IsOpened}

-- each look-up that is followed has its asker, each entered path but the root is brought by one, and a fault stands exactly
-- where it stands by some asker at some path
pub record HaveAskers {P E : Type 0} (N : Type 0) (absent : P → Absence E → Type 0) : Type 0 where
  pub followed : (task : Task P N) (w : List (Table P N)) (l : LookUp P N) → Followed w task l ↔ ((a : Asker P N) × AsksBy task w a l)
  pub entered : (task : Task P N) (w : List (Table P N)) (p : P) → Entered w task p ↔ ((p ≡ task.root) ⊎ ((a : Asker P N) × Brings task w a p))
  pub stands : (task : Task P N) (w : List (Table P N)) (limit : ℕ) (root : Table P N) (fault : Fault P N (Absence E))
      → IsAt w task.root root → ((t : Table P N) → Contains w t → t.is_crowded ≡ false) → 0 < limit
      → Stands absent task limit w fault ↔ ((a : Asker P N) × (q : P) × StandsBy task w absent limit fault a q)

module _ {P N E : Type 0} (hands : P → Table P N → Type 0) (refuses : P → E → Type 0) where
  -- one module a path is handed out, and a path is not refused too
  abbrev pub IsPlain : Type 0
  IsPlain = ((p : P) (t u : Table P N) → hands p t → hands p u → t ≡ u) × ((p : P) (t : Table P N) (e : E) → hands p t → refuses p e → ⊥)

  -- where nothing is told, its modules with the reached symbols are a link; and where there is a link, nothing is told
  abbrev pub IsEmptyWhereLinked : Type 0
  IsEmptyWhereLinked =
      (root : Table P N) (task : Task P N) (limit : ℕ) (k : Opened P N E) → IsPlain → IsOpened hands refuses root task limit k
      → (k.told ≡ [] → (ss : List (Symbol P N)) → AreDistinct ss → ((s : Symbol P N) → Contains ss s ↔ Reached k.tables task s)
      → IsLinked hands refuses root task limit (record { tables = k.tables; symbols = ss; turns = length k.tables + length ss }))
      × ((j : Linking P N) → IsLinked hands refuses root task limit j → k.told ≡ [])

  -- The fault is that of a finding. A path that is refused may be told with another error of it.
  abbrev pub IsTold : Opened P N E → Fault P N E → Type 0
  IsTold k (duplicate p n) = (f : Finding P N E) × Contains k.told f × (f.fault ≡ duplicate p n)
  IsTold k (refused e) = (f : Finding P N E) × Contains k.told f × refuses f.at e × ((x : Absence E) × (f.fault ≡ refused x))
  IsTold k (missing p n) = (f : Finding P N E) × Contains k.told f × (f.fault ≡ missing p n)
  IsTold k (private n p) = (f : Finding P N E) × Contains k.told f × (f.fault ≡ private n p)
  IsTold k (ambiguous n) = (f : Finding P N E) × Contains k.told f × (f.fault ≡ ambiguous n)
  IsTold k (too_many j) = ⊥
  IsTold k (too_many_flags p) = ⊥

  -- where no path is beyond, each fault that explains a refusal is told, or a crowded module is, behind which it may stand
  abbrev pub TellsTheFirst : Type 0
  TellsTheFirst =
      (root : Table P N) (task : Task P N) (limit : ℕ) (k : Opened P N E) (fault : Fault P N E) → IsPlain → IsOpened hands refuses root task limit k
      → k.beyond ≡ [] → Explained hands refuses root task limit fault
      → IsTold k fault ⊎ ((f : Finding P N E) × Contains k.told f × (f.fault ≡ refused Crowded))
