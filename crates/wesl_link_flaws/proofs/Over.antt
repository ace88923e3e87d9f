-- Elements of a name, gone over from the last to the first, each at its number.
use Rattle.std.proofs.Common.{◌≡◌, ◌⊎◌, inl, inr, ℕ, ◌<◌, ◌≤◌, ◌+◌, List, length, slice_get, slice_index_or, Option, Some, None, arith, subst, sym, ap, ◌∙◌}
use Rattle.std.proofs.lemmas.Bool.{cases_lt}
use Rattle.std.proofs.lemmas.Option.{slice_get_within, slice_get-get_or}
use Rattle.std.proofs.Math.Nat.{eq-or-lt_of_le}
use Rattle.wesl_link_symbols.specs.Index.{IsLast}
use Rattle.wesl_link_symbols.proofs.Lists.{one_at}

-- of the elements that Q holds of, R holds of each from n on, with its number, and the one before n is at the index
abbrev pub IsOver : {X : Type 0} → (X → Type 0) → (ℕ → X → Type 0) → List X → Option ℕ → Type 0
IsOver {X} Q R xs at = (n : ℕ) × IsLast Q xs n at × (n ≤ length xs) × ((j : ℕ) (x : X) → n ≤ j → slice_get xs j ≡ Some x → Q x → R j x)

module _ {X : Type 0} (Q : X → Type 0) (R : ℕ → X → Type 0) (xs : List X) where
  pub start : (o : Option ℕ) → IsLast Q xs (length xs) o → IsOver Q R xs o
  start o last = (length xs, last, omega arith, λ j x above at q. absurd (let b = slice_get_within xs j x at in omega arith))

  last_at : (at : Option ℕ) (i n : ℕ) → at ≡ Some i → IsLast Q xs n at → IsLast Q xs n (Some i)
  last_at at i n is last = subst (λ (q : Option ℕ). IsLast Q xs n q) is last

  -- it is within
  pub within : (at : Option ℕ) (i : ℕ) → at ≡ Some i → IsOver Q R xs at → i < length xs
  within at i is (n, last, room, over) = let here : IsLast Q xs n (Some i) = last_at at i n is last in let b : i < n = here.0 in omega arith

  -- one more
  pub next : (at : Option ℕ) (i : ℕ) (o : Option ℕ) → at ≡ Some i → IsOver Q R xs at → ((x : X) → slice_get xs i ≡ Some x → R i x) → IsLast Q xs i o → IsOver Q R xs o
  next at i o is (n, last0, room, over) here last = by (last_at at i n is last0)
    where
      from : IsLast Q xs n (Some i) → (j : ℕ) (y : X) → slice_get xs j ≡ Some y → Q y → (i ≡ j) ⊎ (i < j) → R j y
      from last1 j y at2 q (inl same) = subst (λ (k : ℕ). R k y) same (here y (ap (λ (k : ℕ). slice_get xs k) same ∙ at2))
      from (below, has, none) j y at2 q (inr beyond) = elim (cases_lt j n) [
        | inl within2 ↦ absurd (none j beyond within2 (y, at2, q))
        | inr past ↦ over j y past at2 q
      ]

      by : IsLast Q xs n (Some i) → IsOver Q R xs o
      by last1 = (i, last, (let b : i < n = last1.0 in omega arith), λ j y above at2 q. from last1 j y at2 q (eq-or-lt_of_le above))

  -- all are gone over
  pub all : (at : Option ℕ) → at ≡ None → IsOver Q R xs at → (j : ℕ) (x : X) → slice_get xs j ≡ Some x → Q x → R j x
  all at is (n, last, room, over) j x there q = by (cases_lt j n)
    where
      by : (j < n) ⊎ (n ≤ j) → R j x
      by (inl within2) = let none : IsLast Q xs n None = subst (λ (o : Option ℕ). IsLast Q xs n o) is last in absurd (none j within2 (x, there, q))
      by (inr past) = over j x past there q

pub over_with : {X : Type 0} (Q : X → Type 0) (R S : ℕ → X → Type 0) (xs : List X) (o : Option ℕ) → ((j : ℕ) (x : X) → R j x → S j x) → IsOver Q R xs o → IsOver Q S xs o
over_with Q R S xs o more (n, last, room, over) = (n, last, room, λ j x above at q. more j x (over j x above at q))

-- ---- elements from the first on, each at its number

module _ {X : Type 0} (Q : ℕ → X → Type 0) (xs : List X) where
  pub up_next : (i : ℕ) (d : X) → i < length xs → ((k : ℕ) (x : X) → k < i → slice_get xs k ≡ Some x → Q k x) → Q i (slice_index_or xs i d)
      → (k : ℕ) (x : X) → k < i + 1 → slice_get xs k ≡ Some x → Q k x
  up_next i d b before here k x below at = by (cases_lt k i)
    where
      by : (k < i) ⊎ (i ≤ k) → Q k x
      by (inl less) = before k x less at
      by (inr more) =
          let same : i ≡ k = omega arith in
          subst (λ (j : ℕ). Q j x) same (subst (Q i) (one_at xs i (slice_index_or xs i d) x (slice_get-get_or xs i d b) (subst (λ (j : ℕ). slice_get xs j ≡ Some x) (sym same) at)) here)

  pub up_all : (i : ℕ) → length xs ≤ i → ((k : ℕ) (x : X) → k < i → slice_get xs k ≡ Some x → Q k x) → (k : ℕ) (x : X) → slice_get xs k ≡ Some x → Q k x
  up_all i b all k x at = all k x (let c = slice_get_within xs k x at in omega arith) at
