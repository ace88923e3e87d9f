-- All faults of a link at once: the world that goes on behind each fault, and what is found in it.
use Rattle.std.specs.Prelude.{◌≡◌, ◌⊎◌, ℕ, ◌≤◌, length, true, false, List, ◌∷◌, Contains, All}
use Rattle.wesl_link_symbols.specs.Tables.{Table}
use Rattle.wesl_link_reach.specs.World.{IsAt, IsWorld, Task, Entered}
use Rattle.wesl_link_reach.specs.Faults.{Fault, refused, too_many, too_many_flags, AreDistinct}
use Rattle.wesl_link_reach.specs.Linking.{paths}
use Rattle.wesl_link_flaws.specs.declared.asker.Asker.{Asker}
use Rattle.wesl_link_flaws.specs.declared.absence.Absence.{Absence}
use Rattle.wesl_link_flaws.specs.declared.absence.Absence.TheVariants.{TurnedAway, Crowded}
use Rattle.wesl_link_flaws.specs.Askers.{Brings, StandsBy}

-- a fault, who asks for it, and the path at which it stands
pub record Finding (P N E : Type 0) : Type 0 where
  pub fault : Fault P N (Absence E)
  pub asker : Asker P N
  pub at : P

-- what is found: the modules, the paths that took a place (with a module or without), the findings, and the paths beyond the limit
pub record Opened (P N E : Type 0) : Type 0 where
  pub tables : List (Table P N)
  pub asked : List P
  pub told : List (Finding P N E)
  pub beyond : List P

module _ {P N E : Type 0} (hands : P → Table P N → Type 0) (refuses : P → E → Type 0) where
  -- it is handed out, and not crowded
  abbrev pub HandsRoomy : P → Table P N → Type 0
  HandsRoomy p t = hands p t × (t.is_crowded ≡ false)

  -- the path is refused so, or what is handed out at it is crowded
  abbrev pub IsAbsent : P → Absence E → Type 0
  IsAbsent p (TurnedAway e) = refuses p e
  IsAbsent p Crowded = (t : Table P N) × hands p t × (t.is_crowded ≡ true)

module _ {P N E : Type 0} where
  -- it is told of each asker that brings the path that it is absent, and of all in the same way
  abbrev pub IsToldAbsent : Task P N → Opened P N E → P → Type 0
  IsToldAbsent task k p = (e : Absence E) × ((a : Asker P N) → Brings task k.tables a p → Contains k.told (record { fault = refused e; asker = a; at = p }))

  -- that the limit was met is told
  abbrev pub TellsLimit : Opened P N E → ℕ → Type 0
  TellsLimit k limit = (f : Finding P N E) × Contains k.told f × (f.fault ≡ too_many limit)

  -- what is told of a name; the others speak of a path
  abbrev pub IsOfName : Fault P N (Absence E) → Type 0
  IsOfName (refused e) = ⊥
  IsOfName (too_many k) = ⊥
  IsOfName (too_many_flags p) = ⊥
  IsOfName _ = Unit {0}

-- Of a root that is not crowded: its world, made of the roomy modules of the paths that took a place, and what is found there.
-- Each entered path took a place or is beyond; beyond the limit no path is asked for. At a path that took a place stands a
-- module, or each asker is told that there is none. All that is told stands, and all that stands of names is told.
pub record IsOpened {P N E : Type 0} (hands : P → Table P N → Type 0) (refuses : P → E → Type 0) (root : Table P N) (task : Task P N) (limit : ℕ) (k : Opened P N E) : Type 0 where
  pub root_fits : (root.path ≡ task.root) × (root.is_crowded ≡ false)
  pub world : IsWorld (HandsRoomy hands refuses) root k.tables
  pub root_first : (others : List (Table P N)) × (k.tables ≡ root ∷ others)
  pub tables_once : AreDistinct (paths k.tables)
  pub tables_asked : (t : Table P N) → Contains k.tables t → Contains k.asked t.path
  pub places : AreDistinct k.asked × All (Entered k.tables task) k.asked × (length k.asked ≤ limit)
  pub beyond : (p : P) → Contains k.beyond p → Entered k.tables task p × (Contains k.asked p → ⊥) × (length k.asked ≡ limit)
  pub all : (p : P) → Entered k.tables task p → Contains k.asked p ⊎ (Contains k.beyond p × TellsLimit k limit)
  pub absent : (p : P) → Contains k.asked p → ((t : Table P N) × IsAt k.tables p t) ⊎ IsToldAbsent task k p
  pub once : AreDistinct k.told
  pub stands : (f : Finding P N E) → Contains k.told f → StandsBy task k.tables (IsAbsent hands refuses) limit f.fault f.asker f.at
  pub told : (f : Finding P N E) → IsOfName f.fault → StandsBy task k.tables (IsAbsent hands refuses) limit f.fault f.asker f.at → Contains k.told f
