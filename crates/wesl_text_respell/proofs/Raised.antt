-- Where nothing is pending, it is not told how many parentheses are open: the brackets that are found are the same.
use Rattle.std.proofs.Common.{◌≡◌, ◌≤◌, ◌<◌, ◌⊎◌, inl, inr, ℕ, zero, suc, ◌-◌, Bool, true, false, ◌&&◌, ◌||◌, ◌==◌, if◌then◌else◌, List, [], ◌∷◌, refl, sym as turned, ap, ap₂, ◌∙◌, subst, codes, bytes_eq, nat_lt, arith}
use Rattle.std.proofs.lemmas.Bool.Decides.{leb_tells}
use Rattle.wesl_tree_names.specs.Path.{Text}
use Rattle.wesl_text_tokens.specs.Pieces.{What, a_name, a_number, a_sign, Bit}
use Rattle.wesl_text_tokens.specs.Brackets.{Known, outside, sign_behind, at_greater, at_less, at_sign, at_what, known_behind, known_from}
use Rattle.wesl_text_reading.proofs.Filled.{no_true}
use Rattle.wesl_text_writable.proofs.LeftOut.{SameBrackets}
use Rattle.wesl_text_respell.proofs.Moved.{on, on_suc, on_zero, same_on}

-- in so many more parentheses
abbrev all_raised : ℕ → List (ℕ × ℕ) → List (ℕ × ℕ)
all_raised j [] = []
all_raised j (p ∷ ps) = (p.0, on j p.1) ∷ all_raised j ps

abbrev raised : ℕ → Known → Known
raised j k = record k { pending = all_raised j k.pending; depth = on j k.depth }

-- the first is the second so
abbrev IsRaised : Known → Known → Type 0
IsRaised x k = (j : ℕ) × (x ≡ raised j k)

either_raised : (b : Bool) (x y v w : Known) → IsRaised x v → IsRaised y w → IsRaised (if b then x else y) (if b then v else w)
either_raised true x y v w h g = h
either_raised false x y v w h g = g

same_less : (a b c d : ℕ) → (a < b → c < d) → (c < d → a < b) → nat_lt a b ≡ nat_lt c d
same_less a b c d f g = by (leb_tells (suc a) b) (leb_tells (suc c) d) where
  by : ((nat_lt a b ≡ true) × (suc a ≤ b)) ⊎ ((nat_lt a b ≡ false) × (b < suc a)) → ((nat_lt c d ≡ true) × (suc c ≤ d)) ⊎ ((nat_lt c d ≡ false) × (d < suc c)) → nat_lt a b ≡ nat_lt c d
  by (inl x) (inl y) = x.0 ∙ turned y.0
  by (inr x) (inr y) = x.0 ∙ turned y.0
  by (inl x) (inr y) = let z : ⊥ = omega (arith, f (omega (arith, x.1)), y.1) in absurd z
  by (inr x) (inl y) = let z : ⊥ = omega (arith, g (omega (arith, y.1)), x.1) in absurd z

less_on : (j n m : ℕ) → nat_lt (on j n) (on j m) ≡ nat_lt n m
less_on zero n m = refl
less_on (suc j) n m = same_less (suc (on j n)) (suc (on j m)) (on j n) (on j m) (λ l. omega (arith, l)) (λ l. omega (arith, l)) ∙ less_on j n m

outside_raised : (j m : ℕ) (ps : List (ℕ × ℕ)) → outside (on j m) (all_raised j ps) ≡ all_raised j (outside m ps)
outside_raised j m [] = refl
outside_raised j m (p ∷ ps) = ap (λ z. if z then (p.0, on j p.1) ∷ all_raised j ps else outside (on j m) (all_raised j ps)) (less_on j p.1 m) ∙ by (nat_lt p.1 m) (outside_raised j m ps) where
  by : (z : Bool) → outside (on j m) (all_raised j ps) ≡ all_raised j (outside m ps) → (if z then (p.0, on j p.1) ∷ all_raised j ps else outside (on j m) (all_raised j ps)) ≡ all_raised j (if z then p ∷ ps else outside m ps)
  by true h = refl
  by false h = h

-- none is in fewer than none
outside_none : (ps : List (ℕ × ℕ)) → outside 0 ps ≡ []
outside_none [] = refl
outside_none (p ∷ ps) = by (nat_lt p.1 0) (none (leb_tells (suc p.1) 0)) (outside_none ps) where
  none : ((nat_lt p.1 0 ≡ true) × (suc p.1 ≤ 0)) ⊎ ((nat_lt p.1 0 ≡ false) × (0 < suc p.1)) → nat_lt p.1 0 ≡ false
  none (inl x) = let z : ⊥ = omega (arith, x.1) in absurd z
  none (inr x) = x.0

  by : (z : Bool) → z ≡ false → outside 0 ps ≡ [] → (if z then p ∷ ps else outside 0 ps) ≡ []
  by true e h = absurd (no_true (turned e))
  by false e h = h

-- one less, if there is one
abbrev less_one : ℕ → ℕ
less_one zero = zero
less_one (suc j) = j

one_less : (j : ℕ) → on j 0 - 1 ≡ on (less_one j) 0
one_less zero = refl
one_less (suc j) = omega arith

last_less : (j d : ℕ) → on j (suc d) - 1 ≡ on j (suc d - 1)
last_less j d = ap (λ z. z - 1) (on_suc j d) ∙ (less (on j d) ∙ ap (on j) (turned (less d))) where
  less : (n : ℕ) → suc n - 1 ≡ n
  less n = omega arith

module _ (i : ℕ) (next : Text) (j : ℕ) where
  less_raised : (b x y : Bool) (k : Known) → IsRaised (at_less i b x y (raised j k)) (at_less i b x y k)
  less_raised b x y k =
      either_raised (y || (b && x)) (record (raised j k) { is_passed = true }) (if b then record (raised j k) { pending = (i, on j k.depth) ∷ all_raised j k.pending } else raised j k)
      (record k { is_passed = true }) (if b then record k { pending = (i, k.depth) ∷ k.pending } else k) (j, refl)
      (either_raised b (record (raised j k) { pending = (i, on j k.depth) ∷ all_raised j k.pending }) (raised j k) (record k { pending = (i, k.depth) ∷ k.pending }) k (j, refl) (j, refl))

  greater_raised : (y : Bool) (k : Known) (ps : List (ℕ × ℕ)) → IsRaised (at_greater i y (raised j k) (all_raised j ps)) (at_greater i y k ps)
  greater_raised y k [] = (j, refl)
  greater_raised y k (p ∷ ps) =
      subst (λ z. IsRaised (if z then record (raised j k) { pending = all_raised j ps; opened = p.0 ∷ k.opened; closed = i ∷ k.closed } else record (raised j k) { is_passed = y }) (at_greater i y k (p ∷ ps))) (turned (same_on j p.1 k.depth))
      (either_raised (p.1 == k.depth) (record (raised j k) { pending = all_raised j ps; opened = p.0 ∷ k.opened; closed = i ∷ k.closed }) (record (raised j k) { is_passed = y })
      (record k { pending = ps; opened = p.0 ∷ k.opened; closed = i ∷ k.closed }) (record k { is_passed = y }) (j, refl) (j, refl))

  -- behind a parenthesis more than was opened nothing is pending
  closing_raised : (k : Known) (d : ℕ) → k.depth ≡ d → IsRaised (record (raised j k) { pending = outside (on j d) (all_raised j k.pending); depth = on j d - 1 }) (record k { pending = outside d k.pending; depth = d - 1 })
  closing_raised k zero e = (less_one j, ap₂ (λ (ps : List (ℕ × ℕ)) (d : ℕ). let x : Known = record k { pending = ps; depth = d } in x) (outside_raised j 0 k.pending ∙ (ap (all_raised j) (outside_none k.pending) ∙ turned (ap (all_raised (less_one j)) (outside_none k.pending)))) (one_less j))
  closing_raised k (suc d) e = (j, ap₂ (λ (ps : List (ℕ × ℕ)) (d : ℕ). let x : Known = record k { pending = ps; depth = d } in x) (outside_raised j (suc d) k.pending) (last_less j d))

  sign_raised : (b : Bool) (s : Text) (k : Known) → IsRaised (at_sign i b s next (raised j k)) (at_sign i b s next k)
  sign_raised b s k =
      either_raised (bytes_eq s (codes "<")) _ _ _ _ (less_raised b (bytes_eq next (codes "<")) (bytes_eq next (codes "=")) k)
      (either_raised (bytes_eq s (codes ">")) _ _ _ _ (greater_raised (bytes_eq next (codes "=")) k k.pending)
      (either_raised (bytes_eq s (codes "(") || bytes_eq s (codes "[")) (record (raised j k) { depth = suc (on j k.depth) }) _ (record k { depth = suc k.depth }) _ (j, ap (λ (d : ℕ). let x : Known = record (raised j k) { depth = d } in x) (turned (on_suc j k.depth)))
      (either_raised (bytes_eq s (codes ")") || bytes_eq s (codes "]")) (record (raised j k) { pending = outside (on j k.depth) (all_raised j k.pending); depth = on j k.depth - 1 }) _ (record k { pending = outside k.depth k.pending; depth = k.depth - 1 }) _ (closing_raised k k.depth refl)
      (either_raised ((bytes_eq s (codes "!") || bytes_eq s (codes "=")) && bytes_eq next (codes "=")) (record (raised j k) { is_passed = true }) _ (record k { is_passed = true }) _ (j, refl)
      (either_raised (bytes_eq s (codes "&&") || bytes_eq s (codes "||")) (record (raised j k) { pending = outside (on j k.depth) (all_raised j k.pending) }) _ (record k { pending = outside k.depth k.pending }) _
      (j, ap (λ (ps : List (ℕ × ℕ)). let x : Known = record (raised j k) { pending = ps } in x) (outside_raised j k.depth k.pending))
      (either_raised (bytes_eq s (codes "=") || bytes_eq s (codes ";") || bytes_eq s (codes "{") || bytes_eq s (codes ":")) (record (raised j k) { pending = []; depth = 0 }) (raised j k) (record k { pending = []; depth = 0 }) k (0, refl) (j, refl)))))))

  step_raised : (w : What) (k : Known) → IsRaised (known_behind i w next (raised j k)) (known_behind i w next k)
  step_raised w k = either_raised k.is_passed (record (raised j k) { is_passed = false; behind_name = false }) (at_what i w next (raised j k)) (record k { is_passed = false; behind_name = false }) (at_what i w next k) (j, refl) (by w) where
    by : (w : What) → IsRaised (at_what i w next (raised j k)) (at_what i w next k)
    by (a_name t) = (j, refl)
    by (a_number t) = (j, refl)
    by (a_sign s) = sign_raised k.behind_name s (record k { behind_name = false })

known_raised : (bs : List Bit) (i j : ℕ) (k : Known) → SameBrackets (known_from i (raised j k) bs) (known_from i k bs)
known_raised [] i j k = (refl, refl)
known_raised (b ∷ bs) i j k =
    let x : IsRaised (known_behind i b.what (sign_behind bs) (raised j k)) (known_behind i b.what (sign_behind bs) k) = step_raised i (sign_behind bs) j b.what k in
    subst (λ z. SameBrackets (known_from (suc i) z bs) (known_from (suc i) (known_behind i b.what (sign_behind bs) k) bs)) (turned x.1) (known_raised bs (suc i) x.0 (known_behind i b.what (sign_behind bs) k))

-- what is known with any number of parentheses has the brackets of what is known with none
pub depth_forgotten : (bs : List Bit) (i d : ℕ) (k : Known) → k.pending ≡ [] → k.depth ≡ 0 → SameBrackets (known_from i (record k { depth = d }) bs) (known_from i k bs)
depth_forgotten bs i d k p q = subst (λ z. SameBrackets (known_from i z bs) (known_from i k bs)) is (known_raised bs i d k) where
  is : raised d k ≡ record k { depth = d }
  is = ap₂ (λ (ps : List (ℕ × ℕ)) (e : ℕ). let x : Known = record k { pending = ps; depth = e } in x) (ap (all_raised d) p ∙ turned p) (ap (on d) q ∙ on_zero d)
