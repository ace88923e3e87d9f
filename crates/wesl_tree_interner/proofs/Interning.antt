-- Keys that are read by what they say, each numbered by its place.
use Rattle.std.proofs.Common.{String, Global, ◌≡◌, inl, inr, ℕ, zero, suc, ◌<◌, Bool, true, false, ◌||◌, Some, List, [], ◌∷◌, ◌++◌, length, map, get_or, arith, refl, sym, subst, ap, ◌∙◌}
use Rattle.std.specs.Prelude.{bytes_eq, string_bytes, slice_get, if◌then◌else◌}
use Rattle.std.specs.List.{list_any, position}
use Rattle.std.specs.String.{string_eq}
use Rattle.std.proofs.lemmas.List.{map-append}
use Rattle.std.proofs.lemmas.List.Quantifiers.{position-Some}
use Rattle.std.proofs.lemmas.Slice.Eq.{bytes_eq-Decides}
use Rattle.indexmap.specs.IndexSet.{insert_key}
use Rattle.wesl_tree_interner.specs.Different.{AreDifferent}
use Rattle.wesl_tree_interner.proofs.Different.{none_passes, added}
use Rattle.wesl_tree_interner.specs.Interning.{PutsOrKeeps}
use Rattle.wesl_tree_interner.specs.Interned.{with_text}

pub get_map : {K X : Type 0} (f : K → X) (xs : List K) (i : ℕ) (k : K) → slice_get xs i ≡ Some k → slice_get (map f xs) i ≡ Some (f k)
get_map f [] i k h = absurd (cc)
get_map f (y ∷ xs) zero k h = let e : y ≡ k = cc in ap (λ z. Some (f z)) e
get_map f (y ∷ xs) (suc i) k h = get_map f xs i k h

pub get_unmap : {K X : Type 0} (f : K → X) (xs : List K) (i : ℕ) (x : X) → slice_get (map f xs) i ≡ Some x → (k : K) × (slice_get xs i ≡ Some k) × (f k ≡ x)
get_unmap f [] i x h = absurd (cc)
get_unmap f (y ∷ xs) zero x h = (y, refl, cc)
get_unmap f (y ∷ xs) (suc i) x h = get_unmap f xs i x h

-- the place of the first key that passes
at_position : {K X : Type 0} (f : K → X) (p : K → Bool) (x : X) (passes : (k : K) → p k ≡ true → f k ≡ x) (y : K) (xs : List K) (i : ℕ)
    → (i < length (y ∷ xs)) × (p (get_or (y ∷ xs) i y) ≡ true) × ((k : ℕ) → k < i → p (get_or (y ∷ xs) k y) ≡ false) → slice_get (map f (y ∷ xs)) i ≡ Some x
at_position f p x passes y xs i h = get_at f (y ∷ xs) i y x h.0 (passes (get_or (y ∷ xs) i y) h.1)
  where
    get_at : {K X : Type 0} (f : K → X) (xs : List K) (i : ℕ) (d : K) (x : X) → i < length xs → f (get_or xs i d) ≡ x → slice_get (map f xs) i ≡ Some x
    get_at f [] i d x b e = absurd (omega arith)
    get_at f (z ∷ xs) zero d x b e = ap Some e
    get_at f (z ∷ xs) (suc i) d x b e = get_at f xs i d x (omega arith) e

pub position_held : {K X : Type 0} (f : K → X) (p : K → Bool) (x : X) → ((k : K) → p k ≡ true → f k ≡ x) → (xs : List K) (i : ℕ) → position p xs ≡ Some i → slice_get (map f xs) i ≡ Some x
position_held f p x passes [] i h = absurd (cc)
position_held f p x passes (y ∷ xs) i h = at_position f p x passes y xs i (position-Some p (y ∷ xs) i y h)

-- what no key says has no place
pub none_held : {K X : Type 0} (f : K → X) (p : K → Bool) (x : X) → ((k : K) → f k ≡ x → p k ≡ true) → (xs : List K) → list_any p xs ≡ false → (i : ℕ) → slice_get (map f xs) i ≡ Some x → ⊥
none_held f p x passes xs n i h = let (k, g, e) = get_unmap f xs i x h in none_passes p xs i k n g (passes k e)

-- what the texts say of a key is what the keys say
any_text : (k : String Global) (ks : List (String Global)) → list_any (string_eq k) ks ≡ list_any (bytes_eq (string_bytes k)) (map string_bytes ks)
any_text k [] = refl
any_text k (x ∷ ks) = ap (λ b. string_eq k x || b) (any_text k ks)

pub texts_with : (ks : List (String Global)) (k : String Global) → map string_bytes (insert_key string_eq ks k) ≡ with_text (map string_bytes ks) (string_bytes k)
texts_with ks k = by (list_any (string_eq k) ks) ∙ ap (λ b. if b then map string_bytes ks else map string_bytes ks ++ string_bytes k ∷ []) (any_text k ks)
  where
    by : (b : Bool) → map string_bytes (if b then ks else ks ++ k ∷ []) ≡ (if b then map string_bytes ks else map string_bytes ks ++ string_bytes k ∷ [])
    by true = refl
    by false = map-append string_bytes ks (k ∷ [])

pub different_with : (ks : List (String Global)) (k : String Global) → AreDifferent (map string_bytes ks) → AreDifferent (map string_bytes (insert_key string_eq ks k))
different_with ks k d = by (list_any (string_eq k) ks) refl
  where
    by : (b : Bool) → list_any (string_eq k) ks ≡ b → AreDifferent (map string_bytes (if b then ks else ks ++ k ∷ []))
    by true e = d
    by false e = subst (λ (xs : List _). AreDifferent xs) (sym (map-append string_bytes ks (k ∷ []))) (added (map string_bytes ks) (string_bytes k) d (none_held string_bytes (string_eq k) (string_bytes k) (λ l h. (bytes_eq-Decides (string_bytes k) (string_bytes l)).1 (sym h)) ks e))

pub different_put : (old new : List (String Global)) (k : String Global) → AreDifferent (map string_bytes old) → PutsOrKeeps old k new → AreDifferent (map string_bytes new)
different_put old new k d (inl e) = subst (λ (ks : List (String Global)). AreDifferent (map string_bytes ks)) (sym e) d
different_put old new k d (inr e) = subst (λ (ks : List (String Global)). AreDifferent (map string_bytes ks)) (sym e) (different_with old k d)

-- a name that is there changes nothing
pub texts_known : (ks : List (String Global)) (x : List ℕ) → list_any (λ k. bytes_eq x (string_bytes k)) ks ≡ true → map string_bytes ks ≡ with_text (map string_bytes ks) x
texts_known ks x h = ap (λ b. if b then map string_bytes ks else map string_bytes ks ++ x ∷ []) (sym (any ks ∙ h))
  where
    any : (ks : List (String Global)) → list_any (bytes_eq x) (map string_bytes ks) ≡ list_any (λ k. bytes_eq x (string_bytes k)) ks
    any [] = refl
    any (k ∷ ks) = ap (λ b. bytes_eq x (string_bytes k) || b) (any ks)
