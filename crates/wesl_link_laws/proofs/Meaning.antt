-- What the numbers of a linked unit stand for.
use Rattle.std.proofs.Common.{◌≡◌, ℕ, zero, suc, ◌<◌, Bool, true, false, List, [], ◌∷◌, length, map, refl, sym, ap, ◌∙◌, subst, arith}
use Rattle.std.specs.Prelude.{◌==◌, slice_index_or, if◌then◌else◌}
use Rattle.std.proofs.lemmas.Bool.Decides.{Decides-eqb}
use Rattle.wesl_tree_syntax.specs.Numbers.{AreNumbers, number_at}
use Rattle.wesl_scope_numbers.proofs.Canonical.{mapped_length}

module _ {K : Type 0} (d : K) where
  -- what the first of that number stands for
  abbrev pub first_meaning : List ℕ → List K → ℕ → K
  first_meaning [] ks m = d
  first_meaning (n ∷ ns) [] m = d
  first_meaning (n ∷ ns) (k ∷ ks) m = if n == m then k else first_meaning ns ks m

  pub means_at : (ns : List ℕ) (ks : List K) (i : ℕ) → length ns ≡ length ks → i < length ns → ((j : ℕ) → j < length ns → number_at ns j ≡ number_at ns i → slice_index_or ks j d ≡ slice_index_or ks i d)
      → first_meaning ns ks (number_at ns i) ≡ slice_index_or ks i d
  means_at [] ks i l h one = absurd (omega (arith, h))
  means_at (n ∷ ns) [] i l h one = absurd (omega (arith, l))
  means_at (n ∷ ns) (k ∷ ks) zero l h one = ap (λ b. if b then k else first_meaning ns ks n) ((Decides-eqb n n).1 refl)
  means_at (n ∷ ns) (k ∷ ks) (suc i) l h one = by (n == number_at ns i) refl (means_at ns ks i (omega (arith, l)) (omega (arith, h)) (λ j hj same. one (suc j) (omega (arith, hj)) same))
    where
      by : (b : Bool) → (n == number_at ns i) ≡ b → first_meaning ns ks (number_at ns i) ≡ slice_index_or ks i d → (if b then k else first_meaning ns ks (number_at ns i)) ≡ slice_index_or ks i d
      by true e rest = one 0 (omega arith) ((Decides-eqb n (number_at ns i)).0 e)
      by false e rest = rest

at_place : {X Y : Type 0} (f : X → Y) (xs : List X) (i : ℕ) (y : Y) (x : X) → i < length xs → slice_index_or (map f xs) i y ≡ f (slice_index_or xs i x)
at_place f [] i y x h = absurd (omega (arith, h))
at_place f (a ∷ xs) zero y x h = refl
at_place f (a ∷ xs) (suc i) y x h = at_place f xs i y x (omega (arith, h))

same_lists : {X : Type 0} (d : X) (xs ys : List X) → length xs ≡ length ys → ((i : ℕ) → i < length xs → slice_index_or xs i d ≡ slice_index_or ys i d) → xs ≡ ys
same_lists d [] [] l h = refl
same_lists d [] (y ∷ ys) l h = absurd (omega (arith, l))
same_lists d (x ∷ xs) [] l h = absurd (omega (arith, l))
same_lists d (x ∷ xs) (y ∷ ys) l h = ap (λ z. z ∷ xs) (h 0 (omega arith)) ∙ ap (λ zs. y ∷ zs) (same_lists d xs ys (omega (arith, l)) (λ i k. h (suc i) (omega (arith, k))))

-- numbers by what they stand for stand for it
pub denoted : {K : Type 0} (d : K) (ks : List K) (ns : List ℕ) → AreNumbers ks ns → map (first_meaning d ns ks) ns ≡ ks
denoted d ks ns a =
    let l : length (map (first_meaning d ns ks) ns) ≡ length ns = mapped_length (first_meaning d ns ks) ns in
    same_lists d (map (first_meaning d ns ks) ns) ks (l ∙ a.one_each)
    (λ i h.
    let hi : i < length ns = omega (arith, h, l) in
    at_place (first_meaning d ns ks) ns i d 0 hi
    ∙ means_at d ns ks i a.one_each hi (λ j hj same. (a.equal_where_keys d j i (omega (arith, hj, a.one_each)) (omega (arith, hi, a.one_each))).0 same))

-- what stands for one thing has one number
pub one_number : {K : Type 0} (means : ℕ → K) (ks : List K) (ns : List ℕ) → AreNumbers ks ns → map means ns ≡ ks → (i j : ℕ) → i < length ns → j < length ns → means (number_at ns i) ≡ means (number_at ns j) → number_at ns i ≡ number_at ns j
one_number means ks ns a e i j hi hj same =
    let d = means 0 in
    let f = a.equal_where_keys d i j (omega (arith, hi, a.one_each)) (omega (arith, hj, a.one_each)) in
    let at_i = at_place means ns i d 0 hi in
    let at_j = at_place means ns j d 0 hj in
    f.1 (subst (λ xs. slice_index_or xs i d ≡ slice_index_or xs j d) e (at_i ∙ (same ∙ sym at_j)))
