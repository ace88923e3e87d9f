-- A computing form of the canonical numbers.
use Rattle.std.specs.Prelude.{ℕ, suc, ◌==◌, List, [], ◌∷◌, ◌++◌, length, if◌then◌else◌}
use Rattle.wesl_scope_meanings.specs.Scopes.{Key, same_key}

-- how many keys stand before the first that is equal to this one, or how many there are where none is
abbrev pub index_in : Key → List Key → ℕ
index_in k [] = 0
index_in k (x ∷ xs) = if same_key x k then 0 else suc (index_in k xs)

-- a key goes last, unless it is there
abbrev pub with_key : List Key → Key → List Key
with_key seen k = if index_in k seen == length seen then seen ++ k ∷ [] else seen

-- of each of these keys its place among the different ones, which stand in the order of first occurrence, those of `seen` first
abbrev pub canonical_from : List Key → List Key → List ℕ
canonical_from seen [] = []
canonical_from seen (k ∷ ks) = index_in k seen ∷ canonical_from (with_key seen k) ks

-- the canonical numbers of keys: equal exactly where the keys are, and 0, 1, 2, .. by first occurrence
abbrev pub canonical : List Key → List ℕ
canonical = canonical_from []
