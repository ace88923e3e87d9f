-- Lists in which nothing stands twice, as one more is added.
use Rattle.std.proofs.Common.{◌≡◌, ◌⊎◌, inl, inr, ℕ, zero, suc, Bool, true, false, ◌||◌, Some, List, [], ◌∷◌, ◌++◌, length, refl, sym, ap, ◌∙◌, true≢false}
use Rattle.std.specs.Prelude.{slice_get}
use Rattle.std.specs.List.{list_any}
use Rattle.wesl_tree_interner.specs.Different.{AreDifferent}

pub none_passes : {K : Type 0} (p : K → Bool) (xs : List K) (i : ℕ) (k : K) → list_any p xs ≡ false → slice_get xs i ≡ Some k → p k ≡ true → ⊥
none_passes p [] i k n h e = cc
none_passes p (y ∷ xs) zero k n h e = let same : y ≡ k = cc in true≢false (sym e ∙ (ap p (sym same) ∙ first (p y) (list_any p xs) n))
  where
    first : (a b : Bool) → (a || b) ≡ false → a ≡ false
    first true b h = h
    first false b h = refl
none_passes p (y ∷ xs) (suc i) k n h e = none_passes p xs i k (second (p y) (list_any p xs) n) h e
  where
    second : (a b : Bool) → (a || b) ≡ false → b ≡ false
    second true b h = absurd (true≢false h)
    second false b h = h

-- the last element, or one before it
pub get_cases : {X : Type 0} (xs : List X) (y : X) (i : ℕ) (x : X) → slice_get (xs ++ y ∷ []) i ≡ Some x → (slice_get xs i ≡ Some x) ⊎ ((i ≡ length xs) × (y ≡ x))
get_cases [] y zero x h = inr (refl, cc)
get_cases [] y (suc i) x h = absurd (cc)
get_cases (z ∷ xs) y zero x h = inl h
get_cases (z ∷ xs) y (suc i) x h = elim (get_cases xs y i x h) [ inl e ↦ inl e | inr (e, f) ↦ inr (ap suc e, f) ]

-- one more than those that are different, which it is none of
pub added : {X : Type 0} (xs : List X) (y : X) → AreDifferent xs → ((i : ℕ) → slice_get xs i ≡ Some y → ⊥) → AreDifferent (xs ++ y ∷ [])
added xs y d new i j x g h = by (get_cases xs y i x g) (get_cases xs y j x h)
  where
    by : (slice_get xs i ≡ Some x) ⊎ ((i ≡ length xs) × (y ≡ x)) → (slice_get xs j ≡ Some x) ⊎ ((j ≡ length xs) × (y ≡ x)) → i ≡ j
    by (inl a) (inl b) = d i j x a b
    by (inl a) (inr (b, e)) = absurd (new i (a ∙ ap Some (sym e)))
    by (inr (a, e)) (inl b) = absurd (new j (b ∙ ap Some (sym e)))
    by (inr (a, e)) (inr (b, g)) = a ∙ sym b
