-- What may still open a list: each `<` once, the newest first, and none that has opened one.
use Rattle.std.proofs.Common.{◌≡◌, ◌≤◌, ◌<◌, ℕ, suc, ◌-◌, Bool, true, false, ◌&&◌, ◌||◌, ◌==◌, if◌then◌else◌, List, [], ◌∷◌, ap₂, codes, bytes_eq, nat_lt, arith}
use Rattle.std.proofs.lemmas.Bool.{ne_eqb}
use Rattle.wesl_tree_names.specs.Path.{Text}
use Rattle.wesl_text_tokens.specs.Characters.{is_one_of}
use Rattle.wesl_text_tokens.specs.Pieces.{What, a_name, a_number, a_sign}
use Rattle.wesl_text_tokens.specs.Brackets.{Known, outside, at_greater, at_less, at_sign, at_what, known_behind}
use Rattle.wesl_text_writable.proofs.Fresh.{either_is}

-- they stand before a place, each before the one that is newer
abbrev pub Sorted : List ℕ → ℕ → List (ℕ × ℕ) → Type 0
Sorted os i [] = Unit {0}
Sorted os i (p ∷ ps) = (p.0 < i) × (is_one_of os p.0 ≡ false) × Sorted os p.0 ps

abbrev pub IsSorted : ℕ → Known → Type 0
IsSorted i k = Sorted k.opened i k.pending

pub sorted_later : (os : List ℕ) (i j : ℕ) (ps : List (ℕ × ℕ)) → i ≤ j → Sorted os i ps → Sorted os j ps
sorted_later os i j [] l h = tt
sorted_later os i j (p ∷ ps) l h = (omega (arith, l, h.0), h.1, h.2)

sorted_outside : (os : List ℕ) (i d : ℕ) (ps : List (ℕ × ℕ)) → Sorted os i ps → Sorted os i (outside d ps)
sorted_outside os i d [] h = tt
sorted_outside os i d (p ∷ ps) h = either_is (Sorted os i) (nat_lt p.1 d) (p ∷ ps) (outside d ps) h (sorted_later os p.0 i (outside d ps) (omega (arith, h.0)) (sorted_outside os p.0 d ps h.2))

-- one more has opened a list, which is none of them
sorted_fresh : (os : List ℕ) (i n : ℕ) (ps : List (ℕ × ℕ)) → i ≤ n → Sorted os i ps → Sorted (n ∷ os) i ps
sorted_fresh os i n [] l h = tt
sorted_fresh os i n (p ∷ ps) l h = (h.0, ap₂ (λ a b. a || b) (ne_eqb p.0 n (λ e. let z : ⊥ = omega (arith, l, h.0, e) in z)) h.1, sorted_fresh os p.0 n ps (omega (arith, l, h.0)) h.2)

module _ (i : ℕ) (next : Text) where
  stays : (k : Known) → IsSorted i k → Sorted k.opened (suc i) k.pending
  stays k h = sorted_later k.opened i (suc i) k.pending (omega arith) h

  less_sorted : (b x y : Bool) (k : Known) → is_one_of k.opened i ≡ false → IsSorted i k → IsSorted (suc i) (at_less i b x y k)
  less_sorted b x y k e h =
      either_is (IsSorted (suc i)) (y || (b && x)) (record k { is_passed = true }) (if b then record k { pending = (i, k.depth) ∷ k.pending } else k) (stays k h)
      (either_is (IsSorted (suc i)) b (record k { pending = (i, k.depth) ∷ k.pending }) k (omega arith, e, h) (stays k h))

  greater_sorted : (y : Bool) (k : Known) → IsSorted i k → (ps : List (ℕ × ℕ)) → Sorted k.opened i ps → IsSorted (suc i) (at_greater i y k ps)
  greater_sorted y k h [] g = stays k h
  greater_sorted y k h (p ∷ ps) g =
      either_is (IsSorted (suc i)) (p.1 == k.depth) (record k { pending = ps; opened = p.0 ∷ k.opened; closed = i ∷ k.closed }) (record k { is_passed = y })
      (sorted_later (p.0 ∷ k.opened) p.0 (suc i) ps (omega (arith, g.0)) (sorted_fresh k.opened p.0 p.0 ps (omega arith) g.2)) (stays k h)

  sign_sorted : (b : Bool) (s : Text) (k : Known) → is_one_of k.opened i ≡ false → IsSorted i k → IsSorted (suc i) (at_sign i b s next k)
  sign_sorted b s k e h =
      either_is (IsSorted (suc i)) (bytes_eq s (codes "<")) (at_less i b (bytes_eq next (codes "<")) (bytes_eq next (codes "=")) k) _ (less_sorted b (bytes_eq next (codes "<")) (bytes_eq next (codes "=")) k e h)
      (either_is (IsSorted (suc i)) (bytes_eq s (codes ">")) (at_greater i (bytes_eq next (codes "=")) k k.pending) _ (greater_sorted (bytes_eq next (codes "=")) k h k.pending h)
      (either_is (IsSorted (suc i)) (bytes_eq s (codes "(") || bytes_eq s (codes "[")) (record k { depth = suc k.depth }) _ (stays k h)
      (either_is (IsSorted (suc i)) (bytes_eq s (codes ")") || bytes_eq s (codes "]")) (record k { pending = outside k.depth k.pending; depth = k.depth - 1 }) _ (sorted_outside k.opened (suc i) k.depth k.pending (stays k h))
      (either_is (IsSorted (suc i)) ((bytes_eq s (codes "!") || bytes_eq s (codes "=")) && bytes_eq next (codes "=")) (record k { is_passed = true }) _ (stays k h)
      (either_is (IsSorted (suc i)) (bytes_eq s (codes "&&") || bytes_eq s (codes "||")) (record k { pending = outside k.depth k.pending }) _ (sorted_outside k.opened (suc i) k.depth k.pending (stays k h))
      (either_is (IsSorted (suc i)) (bytes_eq s (codes "=") || bytes_eq s (codes ";") || bytes_eq s (codes "{") || bytes_eq s (codes ":")) (record k { pending = []; depth = 0 }) k tt (stays k h)))))))

  pub step_sorted : (w : What) (k : Known) → is_one_of k.opened i ≡ false → IsSorted i k → IsSorted (suc i) (known_behind i w next k)
  step_sorted w k e h = either_is (IsSorted (suc i)) k.is_passed (record k { is_passed = false; behind_name = false }) (at_what i w next k) (stays k h) (by w) where
    by : (w : What) → IsSorted (suc i) (at_what i w next k)
    by (a_name t) = stays k h
    by (a_number t) = stays k h
    by (a_sign s) = sign_sorted k.behind_name s (record k { behind_name = false }) e h

-- ---- what is known stays known

module _ (P : Known → Type 0) (free : (k : Known) (ps : List (ℕ × ℕ)) (d : ℕ) (b c : Bool) → P k → P (record k { pending = ps; depth = d; behind_name = b; is_passed = c }))
    (pop : (k : Known) (ps : List (ℕ × ℕ)) (x i : ℕ) → P k → P (record k { pending = ps; opened = x ∷ k.opened; closed = i ∷ k.closed })) where
  sign_keeps : (i : ℕ) (b : Bool) (s next : Text) (k : Known) → P k → P (at_sign i b s next k)
  sign_keeps i b s next k h =
      either_is P (bytes_eq s (codes "<")) (at_less i b (bytes_eq next (codes "<")) (bytes_eq next (codes "=")) k) _ (less (bytes_eq next (codes "<")) (bytes_eq next (codes "=")))
      (either_is P (bytes_eq s (codes ">")) (at_greater i (bytes_eq next (codes "=")) k k.pending) _ (greater (bytes_eq next (codes "=")) k.pending)
      (either_is P (bytes_eq s (codes "(") || bytes_eq s (codes "[")) (record k { depth = suc k.depth }) _ (free k k.pending (suc k.depth) k.behind_name k.is_passed h)
      (either_is P (bytes_eq s (codes ")") || bytes_eq s (codes "]")) (record k { pending = outside k.depth k.pending; depth = k.depth - 1 }) _ (free k (outside k.depth k.pending) (k.depth - 1) k.behind_name k.is_passed h)
      (either_is P ((bytes_eq s (codes "!") || bytes_eq s (codes "=")) && bytes_eq next (codes "=")) (record k { is_passed = true }) _ (free k k.pending k.depth k.behind_name true h)
      (either_is P (bytes_eq s (codes "&&") || bytes_eq s (codes "||")) (record k { pending = outside k.depth k.pending }) _ (free k (outside k.depth k.pending) k.depth k.behind_name k.is_passed h)
      (either_is P (bytes_eq s (codes "=") || bytes_eq s (codes ";") || bytes_eq s (codes "{") || bytes_eq s (codes ":")) (record k { pending = []; depth = 0 }) k (free k [] 0 k.behind_name k.is_passed h) h)))))) where
        less : (x y : Bool) → P (at_less i b x y k)
        less x y = either_is P (y || (b && x)) (record k { is_passed = true }) (if b then record k { pending = (i, k.depth) ∷ k.pending } else k) (free k k.pending k.depth k.behind_name true h)
            (either_is P b (record k { pending = (i, k.depth) ∷ k.pending }) k (free k ((i, k.depth) ∷ k.pending) k.depth k.behind_name k.is_passed h) h)

        greater : (y : Bool) (ps : List (ℕ × ℕ)) → P (at_greater i y k ps)
        greater y [] = free k k.pending k.depth k.behind_name y h
        greater y (p ∷ ps) = either_is P (p.1 == k.depth) (record k { pending = ps; opened = p.0 ∷ k.opened; closed = i ∷ k.closed }) (record k { is_passed = y }) (pop k ps p.0 i h) (free k k.pending k.depth k.behind_name y h)

  pub step_keeps : (i : ℕ) (w : What) (next : Text) (k : Known) → P k → P (known_behind i w next k)
  step_keeps i w next k h = either_is P k.is_passed (record k { is_passed = false; behind_name = false }) (at_what i w next k) (free k k.pending k.depth false false h) (by w) where
    by : (w : What) → P (at_what i w next k)
    by (a_name t) = free k k.pending k.depth true k.is_passed h
    by (a_number t) = free k k.pending k.depth false k.is_passed h
    by (a_sign s) = sign_keeps i k.behind_name s next (record k { behind_name = false }) (free k k.pending k.depth false k.is_passed h)
