-- The canonical numbers are there, and are one list.
use Rattle.std.proofs.Common.{◌≡◌, ◌≢◌, ℕ, zero, suc, ◌<◌, ◌≤◌, Bool, true, false, List, [], ◌∷◌, ◌++◌, length, refl, sym, ◌∙◌, ap, subst, arith, append_assoc, ◌⊎◌, inl, inr}
use Rattle.std.specs.Prelude.{◌==◌, if◌then◌else◌}
use mathlib.Core.Bool.{true≢false}
use Rattle.std.specs.Bool.{Decides}
use Rattle.std.proofs.lemmas.Bool.{cases_lt}
use Rattle.std.proofs.lemmas.Grind.{same_number_lists}
use Rattle.std.proofs.lemmas.Bool.Decides.{eqb_tells}
use Rattle.wesl_scope_meanings.specs.Scopes.{Key, same_key}
use Rattle.wesl_tree_syntax.specs.Numbers.{AreNumbers, number_at}
use Rattle.wesl_scope_numbers.specs.Canonical.{index_in, canonical_from, canonical}
use Rattle.wesl_scope_meanings.proofs.Entries.{keys_decide}
use Rattle.wesl_scope_numbers.proofs.Numbering.{key_at, Numbered, none_numbered, numbered, numbered_again, numbered_new}
use Rattle.wesl_scope_occurrences.proofs.Cutting.{append_nil}

-- numbers up to i agree
module _ {K : Type 0} (ks : List K) (d : K) (ms ns : List ℕ) (a : AreNumbers ks ms) (b : AreNumbers ks ns) where
  not_less : (xs ys : List ℕ) → AreNumbers ks xs → AreNumbers ks ys → (i : ℕ) → i < length ks → ((j : ℕ) → j < i → number_at xs j ≡ number_at ys j) → number_at xs i < number_at ys i → ⊥
  not_less xs ys x y i h same l =
      let e = y.by_first i (number_at xs i) h l in
      let in_j : e.0 < length ks = omega (arith, e.1, h) in
      let keys_same = (x.equal_where_keys d e.0 i in_j h).0 (same e.0 e.1 ∙ e.2) in
      let back = (y.equal_where_keys d e.0 i in_j h).1 keys_same in
      omega (arith, l, e.2, back)

  agree_at : (i : ℕ) → i < length ks → ((j : ℕ) → j < i → number_at ms j ≡ number_at ns j) → number_at ms i ≡ number_at ns i
  agree_at i h below = by (cases_lt (number_at ms i) (number_at ns i)) (cases_lt (number_at ns i) (number_at ms i))
    where
      by : (number_at ms i < number_at ns i) ⊎ (number_at ns i ≤ number_at ms i) → (number_at ns i < number_at ms i) ⊎ (number_at ms i ≤ number_at ns i) → number_at ms i ≡ number_at ns i
      by (inl x) _ = absurd (not_less ms ns a b i h below x)
      by (inr x) (inl y) = absurd (not_less ns ms b a i h (λ j l. sym (below j l)) y)
      by (inr x) (inr y) = omega (arith, x, y)

  last_at : (i j : ℕ) → j < suc i → number_at ms i ≡ number_at ns i → ((j : ℕ) → j < i → number_at ms j ≡ number_at ns j) → number_at ms j ≡ number_at ns j
  last_at i j l here below = at (cases_lt j i)
    where
      at : (j < i) ⊎ (i ≤ j) → number_at ms j ≡ number_at ns j
      at (inl x) = below j x
      at (inr x) = let e : i ≡ j = omega (arith, x, l) in subst (λ k. number_at ms k ≡ number_at ns k) e here

  agree_below : (i : ℕ) → i ≤ length ks → (j : ℕ) → j < i → number_at ms j ≡ number_at ns j
  agree_below zero h j l = absurd (omega (arith, l))
  agree_below (suc i) h j l =
      let below = agree_below i (omega (arith, h)) in
      last_at i j l (agree_at i (omega (arith, h)) below) below

  one_by : ms ≡ ns
  one_by = same_number_lists ms ns (a.one_each ∙ sym b.one_each) (λ k h. agree_below (length ks) (omega arith) k (omega (arith, h, a.one_each)))

pub one_list : {K : Type 0} (ks : List K) (ms ns : List ℕ) → AreNumbers ks ms → AreNumbers ks ns → ms ≡ ns
one_list [] ms ns a b = same_number_lists ms ns (a.one_each ∙ sym b.one_each) (λ k h. absurd (omega (arith, h, a.one_each)))
one_list (k ∷ ks) ms ns a b = one_by (k ∷ ks) k ms ns a b

record Told (k : Key) (seen : List Key) (n : ℕ) : Type 0 where
  low : n ≤ length seen
  found : n < length seen → key_at seen n ≡ k
  none : (m : ℕ) → m < n → key_at seen m ≢ k

told : (k : Key) (seen : List Key) → Told k seen (index_in k seen)
told k [] = record { low = omega arith; found = λ h. absurd (omega (arith, h)); none = λ m h. absurd (omega (arith, h)) }
told k (x ∷ xs) = by (same_key x k) (keys_decide x k) (told k xs)
  where
    past : (t : Told k xs (index_in k xs)) → x ≢ k → (m : ℕ) → m < suc (index_in k xs) → key_at (x ∷ xs) m ≢ k
    past t d zero h = d
    past t d (suc m) h = t.none m (omega (arith, h))

    by : (t : Bool) → Decides t (x ≡ k) → Told k xs (index_in k xs) → Told k (x ∷ xs) (if t then 0 else suc (index_in k xs))
    by true d t = record { low = omega arith; found = λ h. d.0 refl; none = λ m h. absurd (omega (arith, h)) }
    by false d t = record { low = omega (arith, t.low); found = λ h. t.found (omega (arith, h)); none = past t (λ e. true≢false (sym (d.1 e))) }

numbers_from : (done : List Key) (numbers : List ℕ) (seen rest : List Key) → Numbered done numbers seen → AreNumbers (done ++ rest) (numbers ++ canonical_from seen rest)
numbers_from done numbers seen [] s =
    subst (λ ks. AreNumbers ks (numbers ++ [])) (sym (append_nil done)) (subst (λ ns. AreNumbers done ns) (sym (append_nil numbers)) (numbered done numbers seen s))
numbers_from done numbers seen (k ∷ ks) s =
    let t = told k seen in
    let n = index_in k seen in
    elim (eqb_tells n (length seen)) as (λ _. AreNumbers (done ++ k ∷ ks) (numbers ++ canonical_from seen (k ∷ ks))) [
      | inl h ↦ joined done numbers seen k ks (seen ++ k ∷ []) (ap (λ b. if b then seen ++ k ∷ [] else seen) h.0)
          (numbers_from (done ++ k ∷ []) (numbers ++ n ∷ []) (seen ++ k ∷ []) ks (numbered_new done numbers seen k n s h.1 (λ m l. t.none m (omega (arith, l, h.1)))))
      | inr h ↦ joined done numbers seen k ks seen (ap (λ b. if b then seen ++ k ∷ [] else seen) h.0)
          (numbers_from (done ++ k ∷ []) (numbers ++ n ∷ []) seen ks (numbered_again done numbers seen k n s (below seen k t h.1) (t.found (below seen k t h.1))))
    ]
  where
    below : (seen : List Key) (k : Key) → Told k seen (index_in k seen) → index_in k seen ≢ length seen → index_in k seen < length seen
    below seen k t ne = by (cases_lt (index_in k seen) (length seen))
      where
        by : (index_in k seen < length seen) ⊎ (length seen ≤ index_in k seen) → index_in k seen < length seen
        by (inl x) = x
        by (inr x) = absurd (ne (omega (arith, x, t.low)))

    joined : (done : List Key) (numbers : List ℕ) (seen : List Key) (k : Key) (ks grown : List Key) → (if index_in k seen == length seen then seen ++ k ∷ [] else seen) ≡ grown
        → AreNumbers ((done ++ k ∷ []) ++ ks) ((numbers ++ index_in k seen ∷ []) ++ canonical_from grown ks) → AreNumbers (done ++ k ∷ ks) (numbers ++ canonical_from seen (k ∷ ks))
    joined done numbers seen k ks grown e h =
        subst (λ g. AreNumbers (done ++ k ∷ ks) (numbers ++ index_in k seen ∷ canonical_from g ks)) (sym e)
        (subst (λ x. AreNumbers x (numbers ++ index_in k seen ∷ canonical_from grown ks)) (append_assoc done (k ∷ []) ks)
        (subst (λ x. AreNumbers ((done ++ k ∷ []) ++ ks) x) (append_assoc numbers (index_in k seen ∷ []) (canonical_from grown ks)) h))

pub has_numbers : (ks : List Key) → AreNumbers ks (canonical ks)
has_numbers ks = numbers_from [] [] [] ks none_numbered
