-- Look-ups that were gone through, and what they lead to.
use Rattle.std.specs.Prelude.{◌≡◌, ◌⊎◌, ℕ, ◌≤◌, length, slice_get, Some, List, [], ◌∷◌, ◌++◌, reverse, Contains}
use Rattle.wesl_link_symbols.specs.declared.symbols.LookUp.{LookUp}
use Rattle.wesl_link_symbols.specs.declared.symbols.Symbol.{Symbol}
use Rattle.wesl_link_symbols.specs.Tables.{Table}
use Rattle.wesl_link_reach.specs.World.{Finds, HasMet, Walk}

-- each with the symbol that it leads to, in the order in which they were kept
pub record TroddenSteps (P N : Type 0) : Type 0 where
  pub steps : List (LookUp P N × Symbol P N)

module _ {P N : Type 0} where
  -- what a look-up asks, whoever asks
  abbrev pub symbol_of : LookUp P N → Symbol P N
  symbol_of l = record { path = l.path; name = l.name }

  -- the step at the place is of this look-up, and this is its symbol
  abbrev pub StepAt : List (LookUp P N × Symbol P N) → ℕ → LookUp P N → Symbol P N → Type 0
  StepAt steps k l s = slice_get steps k ≡ Some (l, s)

  -- a step that is not behind the place asks the same
  abbrev pub IsAskedUpTo : List (LookUp P N × Symbol P N) → ℕ → LookUp P N → Type 0
  IsAskedUpTo steps k b = (j : ℕ) × (j ≤ k) × (l : LookUp P N) × (s : Symbol P N) × StepAt steps j l s × (symbol_of l ≡ symbol_of b)

  -- some step asks the same
  abbrev pub IsAsked : List (LookUp P N × Symbol P N) → LookUp P N → Type 0
  IsAsked steps b = (j : ℕ) × (l : LookUp P N) × (s : Symbol P N) × StepAt steps j l s × (symbol_of l ≡ symbol_of b)

  -- no step before the place asks this
  abbrev pub NoneBefore : List (LookUp P N × Symbol P N) → Symbol P N → ℕ → Type 0
  NoneBefore steps q n = (k : ℕ) (l : LookUp P N) (s : Symbol P N) → StepAt steps k l s → symbol_of l ≡ q → n ≤ k

  -- the steps after a look-up is put: it is among them and they stay, or it goes last, be it among them or not
  abbrev pub PutsStep : List (LookUp P N × Symbol P N) → LookUp P N → Symbol P N → List (LookUp P N × Symbol P N) → Type 0
  PutsStep old l s new = ((new ≡ old) × ((k : ℕ) × (t : Symbol P N) × StepAt old k l t)) ⊎ (new ≡ old ++ (l, s) ∷ [])

-- the maps tell of look-ups where their steps are, and of each question where the first is that asks it
pub record AreNoted {P N : Type 0} (steps : List (LookUp P N × Symbol P N)) (places : List (LookUp P N × ℕ)) (firsts : List (Symbol P N × ℕ)) : Type 0 where
  pub placed : (l : LookUp P N) (k : ℕ) → Contains places (l, k) → (s : Symbol P N) × StepAt steps k l s
  pub first : (q : Symbol P N) (n : ℕ) → Contains firsts (q, n) → NoneBefore steps q n
  pub within : (q : Symbol P N) (n : ℕ) → Contains firsts (q, n) → n ≤ length steps
  pub noted : (k : ℕ) (l : LookUp P N) (s : Symbol P N) → StepAt steps k l s → (n : ℕ) × Contains firsts (symbol_of l, n)

-- the notes that were there stay, and one more is of this question, which had none, at the place
pub record KeepsNotes {Q : Type 0} (old : List (Q × ℕ)) (q : Q) (place : ℕ) (new : List (Q × ℕ)) : Type 0 where
  pub stays : (r : Q) (n : ℕ) → Contains old (r, n) → Contains new (r, n)
  pub only : (r : Q) (n : ℕ) → Contains new (r, n) → Contains old (r, n) ⊎ ((r ≡ q) × ((n ≡ place) × ((m : ℕ) → Contains old (q, m) → ⊥)))

-- A walk of the look-up ends where the symbol is found, which is held, and all that it asks is asked by steps that are not
-- behind the place.
pub record IsTrodden {P N : Type 0} (w : List (Table P N)) (ss : List (Symbol P N)) (steps : List (LookUp P N × Symbol P N)) (k : ℕ) (l : LookUp P N) (s : Symbol P N) : Type 0 where
  pub met : List (LookUp P N)
  pub last : LookUp P N
  pub walk : Walk w l met last
  pub new : HasMet met last → ⊥
  pub finds : Finds w last s
  pub held : Contains ss s
  pub asked : (b : LookUp P N) → Contains (last ∷ met) b → IsAskedUpTo steps k b

-- so it is for each of the steps
abbrev pub AreTrodden : {P N : Type 0} → List (Table P N) → List (Symbol P N) → List (LookUp P N × Symbol P N) → Type 0
AreTrodden {P} {N} w ss steps = (k : ℕ) (l : LookUp P N) (s : Symbol P N) → StepAt steps k l s → IsTrodden w ss steps k l s

-- A walk from the start over the trail ends where the symbol is found, which is held, and all behind the trail is asked by
-- steps.
pub record IsOnWay {P N : Type 0} (w : List (Table P N)) (ss : List (Symbol P N)) (steps : List (LookUp P N × Symbol P N))
    (start : LookUp P N) (trail : List (LookUp P N)) (s : Symbol P N) : Type 0 where
  pub met : List (LookUp P N)
  pub last : LookUp P N
  pub walk : Walk w start (met ++ reverse trail) last
  pub new : HasMet (met ++ reverse trail) last → ⊥
  pub finds : Finds w last s
  pub held : Contains ss s
  pub asked : (b : LookUp P N) → Contains (last ∷ met) b → IsAsked steps b
