-- Indexes of a module's imports and declarations by name.
use Rattle.std.specs.Prelude.{◌≡◌, ℕ, ◌<◌, length, slice_get, Option, Some, None, List, Contains}
use Rattle.wesl_link_symbols.specs.Tables.{Import, Declaration}

-- the declaration binds that name, and none where none is given
abbrev pub IsNamed : {P N : Type 0} → Option N → Declaration P N → Type 0
IsNamed name d = d.name ≡ name

-- the import binds that name
abbrev pub Binds : {P N : Type 0} → N → Import P N → Type 0
Binds n i = i.bound ≡ n

-- there is an element at that index, and Q holds of it
abbrev pub HasAt : {X : Type 0} → (X → Type 0) → List X → ℕ → Type 0
HasAt {X} Q xs i = (x : X) × (slice_get xs i ≡ Some x) × Q x

-- the last index below n at which Q holds, or none
abbrev pub IsLast : {X : Type 0} → (X → Type 0) → List X → ℕ → Option ℕ → Type 0
IsLast Q xs n (Some i) = (i < n) × HasAt Q xs i × ((j : ℕ) → i < j → j < n → HasAt Q xs j → ⊥)
IsLast Q xs n None = (j : ℕ) → j < n → HasAt Q xs j → ⊥

-- the element has that key
abbrev pub IsKeyed : {X K : Type 0} → (X → K) → K → X → Type 0
IsKeyed key k x = key x ≡ k

-- of the first n elements: for each key the last of it, and for each element the one of its key before it
pub record Chains {X K : Type 0} (key : X → K) (xs : List X) (n : ℕ) (latest : List (K × ℕ)) (earlier : List (Option ℕ)) : Type 0 where
  pub latest_only : (k : K) (i : ℕ) → Contains latest (k, i) → IsLast (IsKeyed key k) xs n (Some i)
  pub latest_all : (k : K) (i : ℕ) → i < n → HasAt (IsKeyed key k) xs i → (j : ℕ) × Contains latest (k, j)
  pub earlier_is : (k : K) (i : ℕ) (o : Option ℕ) → slice_get earlier i ≡ Some o → HasAt (IsKeyed key k) xs i → IsLast (IsKeyed key k) xs i o
  pub earlier_len : length earlier ≡ n

-- the name that a declaration binds, if it binds one
abbrev pub name_of : {P N : Type 0} → Declaration P N → Option N
name_of d = d.name

-- the name that an import binds
abbrev pub bound_of : {P N : Type 0} → Import P N → N
bound_of i = i.bound

-- the indexes of a whole module
pub record IsIndexed {P N : Type 0} (imports : List (Import P N)) (declarations : List (Declaration P N))
    (latest : List (Option N × ℕ)) (earlier : List (Option ℕ)) (latest_import : List (N × ℕ)) (earlier_import : List (Option ℕ)) : Type 0 where
  pub named : Chains name_of declarations (length declarations) latest earlier
  pub bound : Chains bound_of imports (length imports) latest_import earlier_import
