-- What is known of template lists behind other pieces, where nothing is pending: the numbers are greater.
use Rattle.std.proofs.Common.{◌≡◌, ◌≤◌, ◌<◌, ℕ, zero, suc, ◌-◌, Bool, true, false, ◌&&◌, ◌||◌, ◌==◌, if◌then◌else◌, List, [], ◌∷◌, ◌++◌, refl, sym as turned, ap, ap₂, ◌∙◌, codes, bytes_eq, nat_lt, eqb-true, arith}
use Rattle.std.proofs.lemmas.Bool.{ne_eqb, eq-eqb, eqb-false}
use Rattle.wesl_tree_names.specs.Path.{Text}
use Rattle.wesl_text_tokens.specs.Characters.{is_one_of}
use Rattle.wesl_text_tokens.specs.Pieces.{What, a_name, a_number, a_sign, Bit}
use Rattle.wesl_text_tokens.specs.Brackets.{Known, outside, sign_behind, at_greater, at_less, at_sign, at_what, known_behind, known_from}

-- the number of a piece behind so many others
abbrev pub on : ℕ → ℕ → ℕ
on zero i = i
on (suc n) i = suc (on n i)

pub on_suc : (n i : ℕ) → on n (suc i) ≡ suc (on n i)
on_suc zero i = refl
on_suc (suc n) i = ap (λ z. suc z) (on_suc n i)

pub on_zero : (n : ℕ) → on n 0 ≡ n
on_zero zero = refl
on_zero (suc n) = ap (λ z. suc z) (on_zero n)

pub on_le : (n i : ℕ) → n ≤ on n i
on_le zero i = omega arith
on_le (suc n) i = omega (arith, on_le n i)

on_one : (n i j : ℕ) → on n i ≡ on n j → i ≡ j
on_one zero i j h = h
on_one (suc n) i j h = on_one n i j (omega (arith, h))

pub same_on : (n i j : ℕ) → (on n i == on n j) ≡ (i == j)
same_on n i j = by (i == j) refl where
  by : (z : Bool) → (i == j) ≡ z → (on n i == on n j) ≡ (i == j)
  by true e = eq-eqb (on n i) (on n j) (ap (on n) (eqb-true i j e)) ∙ turned e
  by false e = ne_eqb (on n i) (on n j) (λ h. eqb-false i j e (on_one n i j h)) ∙ turned e

-- ---- lists of numbers

abbrev pub all_on : ℕ → List ℕ → List ℕ
all_on n [] = []
all_on n (i ∷ is) = on n i ∷ all_on n is

abbrev pairs_on : ℕ → List (ℕ × ℕ) → List (ℕ × ℕ)
pairs_on n [] = []
pairs_on n (p ∷ ps) = (on n p.0, p.1) ∷ pairs_on n ps

-- a number is among them, and others that are less, as before
pub among_on : (n i : ℕ) (is os : List ℕ) → is_one_of os (on n i) ≡ false → is_one_of (all_on n is ++ os) (on n i) ≡ is_one_of is i
among_on n i [] os h = h
among_on n i (j ∷ js) os h = ap₂ (λ a b. a || b) (same_on n i j) (among_on n i js os h)

-- one that is less is none of them
pub less_on : (n i : ℕ) (is os : List ℕ) → i < n → is_one_of (all_on n is ++ os) i ≡ is_one_of os i
less_on n i [] os l = refl
less_on n i (j ∷ js) os l = ap₂ (λ a b. a || b) (ne_eqb i (on n j) (λ e. let z : ⊥ = omega (arith, l, e, on_le n j) in z)) (less_on n i js os l)

-- ---- what is known

module _ (n : ℕ) (os cs : List ℕ) where
  abbrev pub moved : Known → Known
  moved k = record {
    pending = pairs_on n k.pending;
    depth = k.depth;
    behind_name = k.behind_name;
    is_passed = k.is_passed;
    opened = all_on n k.opened ++ os;
    closed = all_on n k.closed ++ cs;
  }

  outside_on : (m : ℕ) (ps : List (ℕ × ℕ)) → outside m (pairs_on n ps) ≡ pairs_on n (outside m ps)
  outside_on m [] = refl
  outside_on m (p ∷ ps) = by (nat_lt p.1 m) (outside_on m ps) where
    by : (z : Bool) → outside m (pairs_on n ps) ≡ pairs_on n (outside m ps) → (if z then (on n p.0, p.1) ∷ pairs_on n ps else outside m (pairs_on n ps)) ≡ pairs_on n (if z then p ∷ ps else outside m ps)
    by true h = refl
    by false h = h

  -- one of two, each of which is the other moved
  either_moved : (b : Bool) (x y : Known) (v w : Known) → v ≡ moved x → w ≡ moved y → (if b then v else w) ≡ moved (if b then x else y)
  either_moved true x y v w h g = h
  either_moved false x y v w h g = g

  module _ (i : ℕ) (next : Text) where
    less_moved : (b x y : Bool) (k : Known) → at_less (on n i) b x y (moved k) ≡ moved (at_less i b x y k)
    less_moved b x y k =
        either_moved (y || (b && x)) (record k { is_passed = true }) (if b then record k { pending = (i, k.depth) ∷ k.pending } else k)
        (record (moved k) { is_passed = true }) (if b then record (moved k) { pending = (on n i, k.depth) ∷ pairs_on n k.pending } else moved k) refl
        (either_moved b (record k { pending = (i, k.depth) ∷ k.pending }) k (record (moved k) { pending = (on n i, k.depth) ∷ pairs_on n k.pending }) (moved k) refl refl)

    greater_moved : (y : Bool) (k : Known) (ps : List (ℕ × ℕ)) → at_greater (on n i) y (moved k) (pairs_on n ps) ≡ moved (at_greater i y k ps)
    greater_moved y k [] = refl
    greater_moved y k (p ∷ ps) =
        either_moved (p.1 == k.depth) (record k { pending = ps; opened = p.0 ∷ k.opened; closed = i ∷ k.closed }) (record k { is_passed = y })
        (record (moved k) { pending = pairs_on n ps; opened = on n p.0 ∷ (all_on n k.opened ++ os); closed = on n i ∷ (all_on n k.closed ++ cs) }) (record (moved k) { is_passed = y }) refl refl

    sign_moved : (b : Bool) (s : Text) (k : Known) → at_sign (on n i) b s next (moved k) ≡ moved (at_sign i b s next k)
    sign_moved b s k =
        either_moved (bytes_eq s (codes "<")) _ _ _ _ (less_moved b (bytes_eq next (codes "<")) (bytes_eq next (codes "=")) k)
        (either_moved (bytes_eq s (codes ">")) _ _ _ _ (greater_moved (bytes_eq next (codes "=")) k k.pending)
        (either_moved (bytes_eq s (codes "(") || bytes_eq s (codes "[")) (record k { depth = suc k.depth }) _ (record (moved k) { depth = suc k.depth }) _ refl
        (either_moved (bytes_eq s (codes ")") || bytes_eq s (codes "]")) (record k { pending = outside k.depth k.pending; depth = k.depth - 1 }) _ (record (moved k) { pending = outside k.depth (pairs_on n k.pending); depth = k.depth - 1 }) _
        (ap (λ z. record (moved k) { pending = z; depth = k.depth - 1 }) (outside_on k.depth k.pending))
        (either_moved ((bytes_eq s (codes "!") || bytes_eq s (codes "=")) && bytes_eq next (codes "=")) (record k { is_passed = true }) _ (record (moved k) { is_passed = true }) _ refl
        (either_moved (bytes_eq s (codes "&&") || bytes_eq s (codes "||")) (record k { pending = outside k.depth k.pending }) _ (record (moved k) { pending = outside k.depth (pairs_on n k.pending) }) _
        (ap (λ z. record (moved k) { pending = z }) (outside_on k.depth k.pending))
        (either_moved (bytes_eq s (codes "=") || bytes_eq s (codes ";") || bytes_eq s (codes "{") || bytes_eq s (codes ":")) (record k { pending = []; depth = 0 }) k (record (moved k) { pending = []; depth = 0 }) (moved k) refl refl))))))

    step_moved : (w : What) (k : Known) → known_behind (on n i) w next (moved k) ≡ moved (known_behind i w next k)
    step_moved w k = either_moved k.is_passed (record k { is_passed = false; behind_name = false }) (at_what i w next k) (record (moved k) { is_passed = false; behind_name = false }) (at_what (on n i) w next (moved k)) refl (by w) where
      by : (w : What) → at_what (on n i) w next (moved k) ≡ moved (at_what i w next k)
      by (a_name t) = refl
      by (a_number t) = refl
      by (a_sign s) = sign_moved k.behind_name s (record k { behind_name = false })

  pub known_moved : (bs : List Bit) (i : ℕ) (k : Known) → known_from (on n i) (moved k) bs ≡ moved (known_from i k bs)
  known_moved [] i k = refl
  known_moved (b ∷ bs) i k =
      ap₂ (λ j z. known_from j z bs) (turned (on_suc n i)) (step_moved i (sign_behind bs) b.what k) ∙ known_moved bs (suc i) (known_behind i b.what (sign_behind bs) k)
