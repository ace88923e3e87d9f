-- How the hops end that walks came by.
use Rattle.std.specs.Prelude.{◌≡◌, ◌⊎◌, ℕ, length, Result, Ok, Err, List, [], ◌∷◌, ◌++◌, reverse, Contains}
use Rattle.wesl_link_symbols.specs.declared.ids.PathId.{PathId}
use Rattle.wesl_tree_base.specs.declared.ids.NameId.{NameId}
use Rattle.wesl_link_symbols.specs.declared.symbols.LookUp.{LookUp}
use Rattle.wesl_link_symbols.specs.declared.symbols.Symbol.{Symbol}
use Rattle.wesl_link_symbols.specs.Tables.{Table}
use Rattle.wesl_link_reach.specs.World.{Hops, HasMet, Walk}
use Rattle.wesl_link_reach.specs.Trodden.{symbol_of}
use Rattle.wesl_link_trails.specs.declared.ends.Ending.{Ending}
use Rattle.wesl_link_trails.specs.declared.ends.Ends.{Ends}
use Rattle.wesl_link_trails.specs.Ends.{AreNumbered, IsAmong}
use Rattle.wesl_link_flaws.specs.declared.told.Flaw.TheVariants.{Lacking}
use Rattle.wesl_link_flaws.specs.declared.told.End.{End}
use Rattle.wesl_link_flaws.specs.declared.told.End.TheVariants.{Flawed}
use Rattle.wesl_link_flaws.specs.declared.hops.Ring.{Ring}
use Rattle.wesl_link_flaws.specs.Flaws.{Halts}

module _ {P N : Type 0} (w : List (Table P N)) where
  -- what the look-up is answered: the next one, or how it ends there
  abbrev pub IsAnswer : LookUp P N → Result (LookUp P N) (End P N) → Type 0
  IsAnswer l (Ok n) = Hops w l n
  IsAnswer l (Err e) = Halts w l e

  -- a walk that met these ends at the look-up so: it asks what was met, or it asks nothing that was met and halts
  abbrev pub Stops : List (LookUp P N) → LookUp P N → End P N → Type 0
  Stops met l e = (HasMet met l × (e ≡ Flawed (Lacking l.name) l.path)) ⊎ ((HasMet met l → ⊥) × Halts w l e)

-- the walk of the look-up ends so, where Q holds of each that it comes to
pub record IsWay {P N : Type 0} (w : List (Table P N)) (Q : LookUp P N → Type 0) (l : LookUp P N) (e : End P N) : Type 0 where
  pub met : List (LookUp P N)
  pub last : LookUp P N
  pub walk : Walk w l met last
  pub stops : Stops w met last e
  pub all : (b : LookUp P N) → Contains (last ∷ met) b → Q b

module _ {P N : Type 0} (ps : List P) (asked : List (Symbol P N)) where
  -- the look-up's path was entered, and its question is one of the first so many
  abbrev pub IsNoted : ℕ → LookUp P N → Type 0
  IsNoted n b = Contains ps b.path × IsAmong asked n (symbol_of b)

module _ {P N : Type 0} (w : List (Table P N)) (ps : List P) (asked : List (Symbol P N)) where
  -- whoever asks the question and is led to the next look-up ends so, and all that is asked then is among the first so many
  abbrev pub HopEnds : Symbol P N → LookUp P N → End P N → ℕ → Type 0
  HopEnds q next e n = (l : LookUp P N) → symbol_of l ≡ q → Hops w l next → IsWay w (IsNoted ps asked n) l e

  -- the look-up ends so, and what its walk asks behind it is among the first so many questions
  abbrev pub EndsWithin : ℕ → LookUp P N → End P N → Type 0
  EndsWithin n l e = IsWay w (λ b. Contains ps b.path × ((symbol_of b ≡ symbol_of l) ⊎ IsAmong asked n (symbol_of b))) l e

  -- a walk from the start over the trail comes to the next look-up, which ends so and asks nothing that the trail asks
  pub record IsBack (start : LookUp P N) (trail : List (LookUp P N)) (next : LookUp P N) (e : End P N) : Type 0 where
    pub way : IsWay w (IsNoted ps asked (length asked)) next e
    pub behind : Walk w start (reverse trail) next
    pub apart : (b : LookUp P N) → Contains (way.last ∷ way.met) b → HasMet (reverse trail) b → ⊥
    pub entered : (b : LookUp P N) → Contains trail b → Contains ps b.path

-- so it is of each hop of which the end is kept
pub record AreKept (w : List (Table PathId NameId)) (ps : List PathId) (ends : Ends (End PathId NameId)) : Type 0 where
  pub numbered : AreNumbered ends.asked.items ends.firsts.entries
  pub kept : (next : LookUp PathId NameId) (k : Ending (End PathId NameId)) → Contains ends.kept.entries (next, k) → HopEnds w ps ends.asked.items k.asked next k.end k.until

-- a walk over the trail comes to a look-up, and the path of each was entered
pub record ComesBy {P N : Type 0} (w : List (Table P N)) (ps : List P) (start : LookUp P N) (trail : List (LookUp P N)) (current : LookUp P N) : Type 0 where
  pub walk : Walk w start (reverse trail) current
  pub entered : (b : LookUp P N) → Contains trail b → Contains ps b.path
  pub here : Contains ps current.path

module _ {P N : Type 0} where
  -- the look-up behind the entry of a ring: the last of its members, or where it has none the one that asks again
  abbrev pub IsBehind : List (LookUp P N) → LookUp P N → LookUp P N → Type 0
  IsBehind members current l = ((members ≡ []) × (l ≡ current)) ⊎ ((rest : List (LookUp P N)) × (members ≡ rest ++ l ∷ []))

-- a walk over the members, of which the last comes first, leads back to where it began
pub record IsRing {P N : Type 0} (w : List (Table P N)) (ps : List P) (asked : List (Symbol P N)) (members : List (LookUp P N)) (current : LookUp P N) : Type 0 where
  pub walk : Walk w current (members ++ current ∷ []) current
  pub noted : (b : LookUp P N) → Contains (current ∷ members) b → IsNoted ps asked (length asked) b

-- the trail without the members of a ring and the look-up at which it was entered, which asks this
pub record IsLeft (q : Symbol PathId NameId) (old new : List (LookUp PathId NameId)) (ring : Ring) : Type 0 where
  pub all : old ≡ new ++ ring.entry ∷ reverse ring.members.items
  pub asked : symbol_of ring.entry ≡ q
