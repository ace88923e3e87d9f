-- A list whose first k places hold what stays of its first i: one more turn.
use Rattle.std.proofs.Common.{◌≡◌, ℕ, zero, suc, ◌+◌, ◌<◌, ◌≤◌, ◌⊎◌, inl, inr, Bool, true, false, cond, List, [], ◌∷◌, ◌++◌, length, get_or, map, take, drop, refl, sym, ap, ◌∙◌, append_assoc, arith}
use Rattle.std.specs.List.{swap}
use Rattle.std.proofs.Math.ListN.{set}
use Rattle.std.proofs.Math.Nat.{eq-or-lt_of_le}
use Rattle.std.proofs.lemmas.List.{get_or-set_same, take-set-le, drop-set-lt, length-set, map-append, drop_more}
use Rattle.std.proofs.lemmas.List.Edits.{swap_is}
use Rattle.std.proofs.lemmas.Grind.{take-set_at}
use Rattle.wesl_cond_chains.specs.Chains.{Judged, residual_after}
use Rattle.wesl_cond_chains.specs.Following.{IsTurn}
use Rattle.wesl_cond_features.specs.Answers.{Answers}

taken_twice : {X : Type 0} (ys : List X) (k i : ℕ) (y z w : X) → (k ≡ i) ⊎ (k < i) → i < length ys → (k ≡ i → w ≡ y) → take (k + 1) (set (set (set ys i z) k y) i w) ≡ take k ys ++ y ∷ []
taken_twice ys k i y z w (inl e) h same =
    let here : i < length (set (set ys i z) k y) = omega (arith, length-set ys i z, length-set (set ys i z) k y) in
    take-set_at (set (set ys i z) k y) i (k + 1) w (omega arith) here
    ∙ rw (take-set-le i (set ys i z) k y (omega arith), take-set-le i ys i z (omega arith), same e, e) refl
taken_twice ys k i y z w (inr l) h same =
    let here : k < length (set ys i z) = omega (arith, length-set ys i z) in
    take-set-le (k + 1) (set (set ys i z) k y) i w (omega arith)
    ∙ take-set_at (set ys i z) k (k + 1) y refl here
    ∙ rw (take-set-le k ys i z (omega arith)) refl

pub take_swapped : {X : Type 0} (ys : List X) (k i : ℕ) (y : X) → k ≤ i → i < length ys → take (k + 1) (swap (set ys i y) k i) ≡ take k ys ++ y ∷ []
take_swapped ys k i y le lt =
    let k_in : k < length (set ys i y) = omega (arith, length-set ys i y) in
    let i_in : i < length (set ys i y) = omega (arith, length-set ys i y) in
    let same : get_or (set ys i y) i y ≡ y = get_or-set_same ys i y y lt in
    ap (take (k + 1)) (sym (swap_is (set ys i y) k i y k_in i_in))
    ∙ ap (λ v. take (k + 1) (set (set (set ys i y) k v) i (get_or (set ys i y) k y))) same
    ∙ taken_twice ys k i y y (get_or (set ys i y) k y) (eq-or-lt_of_le le) lt (λ e. ap (λ j. get_or (set ys i y) j y) e ∙ same)

pub drop_swapped : {X : Type 0} (ys : List X) (k i : ℕ) (y : X) → k ≤ i → i < length ys → drop (i + 1) (swap (set ys i y) k i) ≡ drop (i + 1) ys
drop_swapped ys k i y le lt =
    let k_in : k < length (set ys i y) = omega (arith, length-set ys i y) in
    let i_in : i < length (set ys i y) = omega (arith, length-set ys i y) in
    ap (drop (i + 1)) (sym (swap_is (set ys i y) k i y k_in i_in))
    ∙ drop-set-lt (i + 1) (set (set ys i y) k (get_or (set ys i y) i y)) i (get_or (set ys i y) k y) (omega arith)
    ∙ drop-set-lt (i + 1) (set ys i y) k (get_or (set ys i y) i y) (omega arith)
    ∙ drop-set-lt (i + 1) ys i y (omega arith)

nothing_after : {X : Type 0} (i : ℕ) (ys : List X) → length ys ≤ i → drop i ys ≡ []
nothing_after zero [] h = refl
nothing_after (suc i) [] h = refl
nothing_after zero (y ∷ ys) h = absurd (omega arith)
nothing_after (suc i) (y ∷ ys) h = nothing_after i ys (omega arith)

module _ {I N : Type 0} (J : Judged I N) where
  -- the state of the loop: what the whole list leaves is what lies in front, then what the rest leaves
  abbrev pub Leaves : {X : Type 0} → (X → N) → Answers I → (List N → List N) → List X → ℕ → ℕ → Bool → Bool → Type 0
  Leaves view known total ys k i kept decided = (rest : List N) → total rest ≡ map view (take k ys) ++ residual_after J known kept decided (map view (drop i ys) ++ rest)

  next_turn : {X : Type 0} (view : X → N) (known : Answers I) (total : List N → List N) (ys : List X) (k i : ℕ) (kept decided kept' decided' stays : Bool) (x y : X) → i < length ys → x ≡ get_or ys i x
      → Leaves view known total ys k i kept decided → IsTurn J known kept decided (view x) kept' decided' (view y) stays
      → (rest : List N) → total rest ≡ map view (take k ys) ++ cond stays (view y ∷ residual_after J known kept' decided' (map view (drop (i + 1) ys) ++ rest)) (residual_after J known kept' decided' (map view (drop (i + 1) ys) ++ rest))
  next_turn view known total ys k i kept decided kept' decided' stays x y lt is before turn rest =
      before rest
      ∙ ap (λ l. map view (take k ys) ++ residual_after J known kept decided (map view l ++ rest)) (drop_more ys i x lt)
      ∙ ap (λ u. map view (take k ys) ++ residual_after J known kept decided (view u ∷ (map view (drop (i + 1) ys) ++ rest))) (sym is)
      ∙ ap (λ l. map view (take k ys) ++ l) (turn (map view (drop (i + 1) ys) ++ rest))

  pub one_stays : {X : Type 0} (view : X → N) (known : Answers I) (total : List N → List N) (ys : List X) (k i : ℕ) (kept decided kept' decided' stays : Bool) (x y : X) → i < length ys → k ≤ i → x ≡ get_or ys i x
      → Leaves view known total ys k i kept decided → IsTurn J known kept decided (view x) kept' decided' (view y) stays → stays ≡ true
      → Leaves view known total (swap (set ys i y) k i) (k + 1) (i + 1) kept' decided'
  one_stays view known total ys k i kept decided kept' decided' stays x y lt le is before turn e rest =
      next_turn view known total ys k i kept decided kept' decided' stays x y lt is before turn rest
      ∙ rw (e, take_swapped ys k i y le lt, drop_swapped ys k i y le lt, map-append view (take k ys) (y ∷ []))
      (sym (append_assoc (map view (take k ys)) (view y ∷ []) _))

  pub one_goes : {X : Type 0} (view : X → N) (known : Answers I) (total : List N → List N) (ys : List X) (k i : ℕ) (kept decided kept' decided' stays : Bool) (x y : X) → i < length ys → k ≤ i → x ≡ get_or ys i x
      → Leaves view known total ys k i kept decided → IsTurn J known kept decided (view x) kept' decided' (view y) stays → stays ≡ false
      → Leaves view known total (set ys i y) k (i + 1) kept' decided'
  one_goes view known total ys k i kept decided kept' decided' stays x y lt le is before turn e rest =
      next_turn view known total ys k i kept decided kept' decided' stays x y lt is before turn rest
      ∙ rw (e, take-set-le k ys i y le, drop-set-lt (i + 1) ys i y (omega arith)) refl

  pub all_read : {X : Type 0} (view : X → N) (known : Answers I) (total : List N → List N) (ys zs : List X) (k i : ℕ) (kept decided : Bool) → length ys ≤ i → zs ≡ take k ys → Leaves view known total ys k i kept decided
      → (rest : List N) → total rest ≡ map view zs ++ residual_after J known kept decided rest
  all_read view known total ys zs k i kept decided h is leaves rest =
      leaves rest
      ∙ ap (λ xs. map view (take k ys) ++ residual_after J known kept decided (map view xs ++ rest)) (nothing_after i ys h)
      ∙ ap (λ xs. map view xs ++ residual_after J known kept decided rest) (sym is)
