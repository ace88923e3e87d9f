-- Maps by key, as lists of entries.
use Rattle.std.specs.Prelude.{◌≡◌, ◌⊎◌, ◌↔◌, List, [], ◌∷◌, ◌++◌, Contains}

-- the entries after a value is put at a key: it has that value alone, and each other key keeps its own
pub record Puts {K V : Type 0} (old : List (K × V)) (key : K) (value : V) (new : List (K × V)) : Type 0 where
  pub has : Contains new (key, value)
  pub keeps : (k : K) (v : V) → Contains old (k, v) → (k ≡ key) ⊎ Contains new (k, v)
  pub only : (k : K) (v : V) → Contains new (k, v) → ((k ≡ key) × (v ≡ value)) ⊎ ((k ≡ key → ⊥) × Contains old (k, v))

-- the keys after a key is put: they stay if it is there, and else it goes last
abbrev pub PutsKey : {K : Type 0} → List K → K → List K → Type 0
PutsKey old key new = (Contains old key × (new ≡ old)) ⊎ ((Contains old key → ⊥) × (new ≡ old ++ key ∷ []))

-- both lists have the same keys
abbrev pub HaveTheSame : {K : Type 0} → List K → List K → Type 0
HaveTheSame {K} xs ys = (k : K) → Contains xs k ↔ Contains ys k
