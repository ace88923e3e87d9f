-- What is known of template lists where one piece, which is none of their brackets, is left out: the numbers behind it are less by one.
use Rattle.std.proofs.Common.{◌≡◌, ◌≤◌, ◌<◌, ◌⊎◌, ℕ, zero, suc, ◌-◌, Bool, true, false, ◌&&◌, ◌||◌, ◌==◌, if◌then◌else◌, List, [], ◌∷◌, refl, sym as turned, inl, inr, ap, ◌∙◌, codes, bytes_eq, nat_lt, eqb-true, arith}
use Rattle.std.proofs.lemmas.Bool.{cases_lt, eq-eqb, eqb-false, ne_eqb, or_parts}
use Rattle.wesl_tree_names.specs.Path.{Text}
use Rattle.wesl_text_tokens.specs.Characters.{is_one_of}
use Rattle.wesl_text_tokens.specs.Pieces.{What, a_name, a_number, a_sign, Bit}
use Rattle.wesl_text_tokens.specs.Brackets.{Known, outside, sign_behind, at_greater, at_less, at_sign, at_what, known_behind, known_from}
use Rattle.wesl_text_reading.proofs.Filled.{no_true}
use Rattle.wesl_text_writable.proofs.Fresh.{Before, numbers}

-- the number of a piece without the one that is left out
abbrev pub back : ℕ → ℕ → ℕ
back zero zero = zero
back zero (suc n) = n
back (suc d) zero = zero
back (suc d) (suc n) = suc (back d n)

pub back_later : (d i : ℕ) → d ≤ i → back d (suc i) ≡ i
back_later zero i h = refl
back_later (suc d) zero h = absurd (omega (arith, h))
back_later (suc d) (suc i) h = ap (λ z. suc z) (back_later d i (omega (arith, h)))

pub back_before : (d n : ℕ) → n < d → back d n ≡ n
back_before zero n h = absurd (omega (arith, h))
back_before (suc d) zero h = refl
back_before (suc d) (suc n) h = ap (λ z. suc z) (back_before d n (omega (arith, h)))

back_one : (d n m : ℕ) → (n ≡ d → ⊥) → (m ≡ d → ⊥) → back d n ≡ back d m → n ≡ m
back_one zero zero m a b h = absurd (a refl)
back_one zero (suc n) zero a b h = absurd (b refl)
back_one zero (suc n) (suc m) a b h = ap (λ z. suc z) h
back_one (suc d) zero zero a b h = refl
back_one (suc d) zero (suc m) a b h = absurd (omega (arith, h))
back_one (suc d) (suc n) zero a b h = absurd (omega (arith, h))
back_one (suc d) (suc n) (suc m) a b h = ap (λ z. suc z) (back_one d n m (λ e. a (ap (λ z. suc z) e)) (λ e. b (ap (λ z. suc z) e)) (omega (arith, h)))

same_back : (d n m : ℕ) → (n ≡ d → ⊥) → (m ≡ d → ⊥) → (back d n == back d m) ≡ (n == m)
same_back d n m a b = by (n == m) refl where
  by : (z : Bool) → (n == m) ≡ z → (back d n == back d m) ≡ (n == m)
  by true e = eq-eqb (back d n) (back d m) (ap (back d) (eqb-true n m e)) ∙ turned e
  by false e = ne_eqb (back d n) (back d m) (λ h. eqb-false n m e (back_one d n m a b h)) ∙ turned e

-- ---- lists of numbers

abbrev pub all_back : ℕ → List ℕ → List ℕ
all_back d [] = []
all_back d (n ∷ ns) = back d n ∷ all_back d ns

abbrev pairs_back : ℕ → List (ℕ × ℕ) → List (ℕ × ℕ)
pairs_back d [] = []
pairs_back d (p ∷ ps) = (back d p.0, p.1) ∷ pairs_back d ps

-- a number is among them as before
pub among_back : (d n : ℕ) (ns : List ℕ) → (n ≡ d → ⊥) → is_one_of ns d ≡ false → is_one_of (all_back d ns) (back d n) ≡ is_one_of ns n
among_back d n [] a h = refl
among_back d n (m ∷ ns) a h =
    let x : ((d == m) ≡ false) × (is_one_of ns d ≡ false) = or_parts (d == m) (is_one_of ns d) h in
    ap (λ z. z || is_one_of (all_back d ns) (back d n)) (same_back d n m a (λ e. eqb-false d m x.0 (turned e))) ∙ ap (λ z. (n == m) || z) (among_back d n ns a x.1)

-- numbers before it stay
less_than : (d m : ℕ) (rest : List ℕ) → ((n : ℕ) → d ≤ n → is_one_of (m ∷ rest) n ≡ false) → m < d
less_than d m rest h = by (cases_lt m d) where
  by : (m < d) ⊎ (d ≤ m) → m < d
  by (inl l) = l
  by (inr l) = absurd (no_true (turned (or_parts (m == m) (is_one_of rest m) (h m l)).0 ∙ eq-eqb m m refl))

rest_less : (d m : ℕ) (rest : List ℕ) → ((n : ℕ) → d ≤ n → is_one_of (m ∷ rest) n ≡ false) → (n : ℕ) → d ≤ n → is_one_of rest n ≡ false
rest_less d m rest h n l = (or_parts (n == m) (is_one_of rest n) (h n l)).1

stay : (d : ℕ) (ns : List ℕ) → ((n : ℕ) → d ≤ n → is_one_of ns n ≡ false) → all_back d ns ≡ ns
stay d [] h = refl
stay d (m ∷ ns) h = ap (λ z. z ∷ all_back d ns) (back_before d m (less_than d m ns h)) ∙ ap (λ z. m ∷ z) (stay d ns (rest_less d m ns h))

pairs_stay : (d : ℕ) (ps : List (ℕ × ℕ)) → ((n : ℕ) → d ≤ n → is_one_of (numbers ps) n ≡ false) → pairs_back d ps ≡ ps
pairs_stay d [] h = refl
pairs_stay d (p ∷ ps) h = ap (λ z. let q : ℕ × ℕ = (z, p.1) in q ∷ pairs_back d ps) (back_before d p.0 (less_than d p.0 (numbers ps) h)) ∙ ap (λ z. p ∷ z) (pairs_stay d ps (rest_less d p.0 (numbers ps) h))

-- ---- what is known

abbrev pub shift : ℕ → Known → Known
shift d k = record {
  pending = pairs_back d k.pending;
  depth = k.depth;
  behind_name = k.behind_name;
  is_passed = k.is_passed;
  opened = all_back d k.opened;
  closed = all_back d k.closed;
}

-- what is known before it stays
pub shift_before : (d : ℕ) (k : Known) → Before d k → shift d k ≡ k
shift_before d k b =
    ap (λ z. record (shift d k) { pending = z }) (pairs_stay d k.pending (λ n l. (b n l).0.1))
    ∙ (ap (λ z. record k { opened = z; closed = all_back d k.closed }) (stay d k.opened (λ n l. (b n l).0.0)) ∙ ap (λ z. record k { closed = z }) (stay d k.closed (λ n l. (b n l).1)))

outside_back : (d m : ℕ) (ps : List (ℕ × ℕ)) → outside m (pairs_back d ps) ≡ pairs_back d (outside m ps)
outside_back d m [] = refl
outside_back d m (p ∷ ps) = by (nat_lt p.1 m) (outside_back d m ps) where
  by : (z : Bool) → outside m (pairs_back d ps) ≡ pairs_back d (outside m ps) → (if z then (back d p.0, p.1) ∷ pairs_back d ps else outside m (pairs_back d ps)) ≡ pairs_back d (if z then p ∷ ps else outside m ps)
  by true h = refl
  by false h = h

module _ (d i : ℕ) (late : d ≤ i) (next : Text) where
  -- one of two, each of which is the other shifted
  either_shift : (b : Bool) (x y : Known) (v w : Known) → v ≡ shift d x → w ≡ shift d y → (if b then v else w) ≡ shift d (if b then x else y)
  either_shift true x y v w h g = h
  either_shift false x y v w h g = g

  less_shift : (b x y : Bool) (k : Known) → at_less i b x y (shift d k) ≡ shift d (at_less (suc i) b x y k)
  less_shift b x y k =
      either_shift (y || (b && x)) (record k { is_passed = true }) (if b then record k { pending = (suc i, k.depth) ∷ k.pending } else k)
      (record (shift d k) { is_passed = true }) (if b then record (shift d k) { pending = (i, k.depth) ∷ pairs_back d k.pending } else shift d k) refl
      (either_shift b (record k { pending = (suc i, k.depth) ∷ k.pending }) k (record (shift d k) { pending = (i, k.depth) ∷ pairs_back d k.pending }) (shift d k)
      (ap (λ z. record (shift d k) { pending = (z, k.depth) ∷ pairs_back d k.pending }) (turned (back_later d i late))) refl)

  greater_shift : (y : Bool) (k : Known) (ps : List (ℕ × ℕ)) → at_greater i y (shift d k) (pairs_back d ps) ≡ shift d (at_greater (suc i) y k ps)
  greater_shift y k [] = refl
  greater_shift y k (p ∷ ps) =
      either_shift (p.1 == k.depth) (record k { pending = ps; opened = p.0 ∷ k.opened; closed = suc i ∷ k.closed }) (record k { is_passed = y })
      (record (shift d k) { pending = pairs_back d ps; opened = back d p.0 ∷ all_back d k.opened; closed = i ∷ all_back d k.closed }) (record (shift d k) { is_passed = y })
      (ap (λ z. record (shift d k) { pending = pairs_back d ps; opened = back d p.0 ∷ all_back d k.opened; closed = z ∷ all_back d k.closed }) (turned (back_later d i late))) refl

  sign_shift : (b : Bool) (s : Text) (k : Known) → at_sign i b s next (shift d k) ≡ shift d (at_sign (suc i) b s next k)
  sign_shift b s k =
      either_shift (bytes_eq s (codes "<")) _ _ _ _ (less_shift b (bytes_eq next (codes "<")) (bytes_eq next (codes "=")) k)
      (either_shift (bytes_eq s (codes ">")) _ _ _ _ (greater_shift (bytes_eq next (codes "=")) k k.pending)
      (either_shift (bytes_eq s (codes "(") || bytes_eq s (codes "[")) (record k { depth = suc k.depth }) _ (record (shift d k) { depth = suc k.depth }) _ refl
      (either_shift (bytes_eq s (codes ")") || bytes_eq s (codes "]")) (record k { pending = outside k.depth k.pending; depth = k.depth - 1 }) _ (record (shift d k) { pending = outside k.depth (pairs_back d k.pending); depth = k.depth - 1 }) _
      (ap (λ z. record (shift d k) { pending = z; depth = k.depth - 1 }) (outside_back d k.depth k.pending))
      (either_shift ((bytes_eq s (codes "!") || bytes_eq s (codes "=")) && bytes_eq next (codes "=")) (record k { is_passed = true }) _ (record (shift d k) { is_passed = true }) _ refl
      (either_shift (bytes_eq s (codes "&&") || bytes_eq s (codes "||")) (record k { pending = outside k.depth k.pending }) _ (record (shift d k) { pending = outside k.depth (pairs_back d k.pending) }) _
      (ap (λ z. record (shift d k) { pending = z }) (outside_back d k.depth k.pending))
      (either_shift (bytes_eq s (codes "=") || bytes_eq s (codes ";") || bytes_eq s (codes "{") || bytes_eq s (codes ":")) (record k { pending = []; depth = 0 }) k (record (shift d k) { pending = []; depth = 0 }) (shift d k) refl refl))))))

  step_shift : (w : What) (k : Known) → known_behind i w next (shift d k) ≡ shift d (known_behind (suc i) w next k)
  step_shift w k = either_shift k.is_passed (record k { is_passed = false; behind_name = false }) (at_what (suc i) w next k) (record (shift d k) { is_passed = false; behind_name = false }) (at_what i w next (shift d k)) refl (by w) where
    by : (w : What) → at_what i w next (shift d k) ≡ shift d (at_what (suc i) w next k)
    by (a_name t) = refl
    by (a_number t) = refl
    by (a_sign s) = sign_shift k.behind_name s (record k { behind_name = false })

pub known_shift : (bs : List Bit) (d i : ℕ) → d ≤ i → (k : Known) → known_from i (shift d k) bs ≡ shift d (known_from (suc i) k bs)
known_shift [] d i l k = refl
known_shift (b ∷ bs) d i l k = ap (λ z. known_from (suc i) z bs) (step_shift d i l (sign_behind bs) b.what k) ∙ known_shift bs d (suc i) (omega (arith, l)) (known_behind (suc i) b.what (sign_behind bs) k)
