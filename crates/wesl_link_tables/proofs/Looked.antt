-- Keys that are looked at one after the other, for the first that says the wanted thing.
use Rattle.std.proofs.Common.{◌≡◌, ◌⊎◌, inl, inr, ℕ, ◌<◌, ◌≤◌, ◌+◌, Some, List, map, length, arith, sym, subst, ◌∙◌}
use Rattle.std.specs.Prelude.{slice_get}
use Rattle.std.proofs.lemmas.Bool.{cases_lt}
use Rattle.std.proofs.lemmas.Option.{slice_get_within}
use Rattle.wesl_tree_interner.proofs.Interning.{get_map, get_unmap}

module _ {K X : Type 0} (f : K → X) (xs : List K) (x : X) where
  -- none of the first keys says it
  abbrev pub NoneBefore : ℕ → Type 0
  NoneBefore n = (i : ℕ) → i < n → slice_get (map f xs) i ≡ Some x → ⊥

  pub none_first : NoneBefore 0
  none_first i less at = absurd (omega arith)

  pub none_next : (n : ℕ) (k : K) → slice_get xs n ≡ Some k → (f k ≡ x → ⊥) → NoneBefore n → NoneBefore (n + 1)
  none_next n k here differs before i less at = by (cases_lt i n)
    where
      same : Some (f k) ≡ Some x → f k ≡ x
      same e = cc

      by : (i < n) ⊎ (n ≤ i) → ⊥
      by (inl h) = before i h at
      by (inr h) = let e : i ≡ n = omega arith in differs (same (sym (get_map f xs n k here) ∙ subst (λ (j : ℕ). slice_get (map f xs) j ≡ Some x) e at))

  pub none_at_end : (n : ℕ) → length xs ≤ n → NoneBefore n → (i : ℕ) → slice_get (map f xs) i ≡ Some x → ⊥
  none_at_end n all before i at = let (k, there, e) = get_unmap f xs i x at in before i (omega (arith, slice_get_within xs i k there, all)) at
