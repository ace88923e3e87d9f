-- Which pieces are known to open or close a list: a `<` or a `>`, and none that has been passed.
use Rattle.std.proofs.Common.{◌≡◌, ◌≤◌, ◌<◌, ◌⊎◌, ℕ, suc, Bool, true, false, ◌&&◌, ◌||◌, ◌==◌, if◌then◌else◌, List, [], ◌∷◌, refl, sym as turned, inl, inr, ◌∙◌, codes, bytes_eq, nat_lt, ◌-◌, arith}
use Rattle.std.proofs.lemmas.Bool.{ne_eqb, or_from, or_parts}
use Rattle.wesl_tree_names.specs.Path.{Text}
use Rattle.wesl_text_tokens.specs.Characters.{is_one_of}
use Rattle.wesl_text_tokens.specs.Pieces.{What, a_name, a_number, a_sign, Bit}
use Rattle.wesl_text_tokens.specs.Brackets.{Known, outside, sign_behind, at_greater, at_less, at_sign, at_what, known_behind, known_from}
use Rattle.wesl_text_reading.proofs.Filled.{no_true}

-- the numbers of the `<` that may open a list
abbrev pub numbers : List (ℕ × ℕ) → List ℕ
numbers [] = []
numbers (p ∷ ps) = p.0 ∷ numbers ps

-- a piece opens no list, and may not open one; it closes none
abbrev pub LacksOpen : ℕ → Known → Type 0
LacksOpen n k = (is_one_of k.opened n ≡ false) × (is_one_of (numbers k.pending) n ≡ false)

abbrev pub LacksClosed : ℕ → Known → Type 0
LacksClosed n k = is_one_of k.closed n ≡ false

-- no piece from a number on
abbrev pub Before : ℕ → Known → Type 0
Before i k = (n : ℕ) → i ≤ n → LacksOpen n k × LacksClosed n k

pub either_is : {A : Type 0} (P : A → Type 0) (b : Bool) (x y : A) → P x → P y → P (if b then x else y)
either_is P true x y h g = h
either_is P false x y h g = g

outside_lacks : (d n : ℕ) (ps : List (ℕ × ℕ)) → is_one_of (numbers ps) n ≡ false → is_one_of (numbers (outside d ps)) n ≡ false
outside_lacks d n [] h = refl
outside_lacks d n (p ∷ ps) h = either_is (λ z. is_one_of (numbers z) n ≡ false) (nat_lt p.1 d) (p ∷ ps) (outside d ps) h (outside_lacks d n ps (or_parts (n == p.0) (is_one_of (numbers ps) n) h).1)

-- whether a piece is `<`, or `>`
abbrev pub is_mark : Text → What → Bool
is_mark u (a_sign t) = bytes_eq t u
is_mark u w = false

-- a piece with another number, or that is no `<`
abbrev Other : Text → ℕ → ℕ → What → Type 0
Other u n i w = ((n == i) ≡ false) ⊎ (is_mark u w ≡ false)

module _ (n i : ℕ) (next : Text) where
  less_lacks : (b x y : Bool) (k : Known) → (n == i) ≡ false → LacksOpen n k → LacksOpen n (at_less i b x y k)
  less_lacks b x y k e h =
      either_is (LacksOpen n) (y || (b && x)) (record k { is_passed = true }) (if b then record k { pending = (i, k.depth) ∷ k.pending } else k) h
      (either_is (LacksOpen n) b (record k { pending = (i, k.depth) ∷ k.pending }) k (h.0, or_from (n == i) (is_one_of (numbers k.pending) n) e h.1) h)

  greater_lacks : (x : Bool) (k : Known) (ps : List (ℕ × ℕ)) → is_one_of k.opened n ≡ false → is_one_of (numbers k.pending) n ≡ false → is_one_of (numbers ps) n ≡ false → LacksOpen n (at_greater i x k ps)
  greater_lacks x k [] h g m = (h, g)
  greater_lacks x k (p ∷ ps) h g m =
      let q : ((n == p.0) ≡ false) × (is_one_of (numbers ps) n ≡ false) = or_parts (n == p.0) (is_one_of (numbers ps) n) m in
      either_is (LacksOpen n) (p.1 == k.depth) (record k { pending = ps; opened = p.0 ∷ k.opened; closed = i ∷ k.closed }) (record k { is_passed = x })
      (or_from (n == p.0) (is_one_of k.opened n) q.0 h, q.1) (h, g)

  sign_lacks : (b : Bool) (s : Text) (k : Known) → Other (codes "<") n i (a_sign s) → LacksOpen n k → LacksOpen n (at_sign i b s next k)
  sign_lacks b s k o h =
      first _ (bytes_eq s (codes "<")) refl
      (either_is (LacksOpen n) (bytes_eq s (codes ">")) (at_greater i (bytes_eq next (codes "=")) k k.pending) _ (greater_lacks (bytes_eq next (codes "=")) k k.pending h.0 h.1 h.1)
      (either_is (LacksOpen n) (bytes_eq s (codes "(") || bytes_eq s (codes "[")) (record k { depth = suc k.depth }) _ h
      (either_is (LacksOpen n) (bytes_eq s (codes ")") || bytes_eq s (codes "]")) (record k { pending = outside k.depth k.pending; depth = k.depth - 1 }) _ (h.0, outside_lacks k.depth n k.pending h.1)
      (either_is (LacksOpen n) ((bytes_eq s (codes "!") || bytes_eq s (codes "=")) && bytes_eq next (codes "=")) (record k { is_passed = true }) _ h
      (either_is (LacksOpen n) (bytes_eq s (codes "&&") || bytes_eq s (codes "||")) (record k { pending = outside k.depth k.pending }) _ (h.0, outside_lacks k.depth n k.pending h.1)
      (either_is (LacksOpen n) (bytes_eq s (codes "=") || bytes_eq s (codes ";") || bytes_eq s (codes "{") || bytes_eq s (codes ":")) (record k { pending = []; depth = 0 }) k (h.0, refl) h)))))) where
        first : (x : Known) (z : Bool) → bytes_eq s (codes "<") ≡ z → LacksOpen n x → LacksOpen n (if z then at_less i b (bytes_eq next (codes "<")) (bytes_eq next (codes "=")) k else x)
        first x false e g = g
        first x true e g = less_lacks b (bytes_eq next (codes "<")) (bytes_eq next (codes "=")) k (other o) h where
          other : Other (codes "<") n i (a_sign s) → (n == i) ≡ false
          other (inl q) = q
          other (inr q) = absurd (no_true (turned q ∙ e))

  -- the same of what a list is closed by
  less_open : (b x y : Bool) (k : Known) → LacksClosed n k → LacksClosed n (at_less i b x y k)
  less_open b x y k h =
      either_is (LacksClosed n) (y || (b && x)) (record k { is_passed = true }) (if b then record k { pending = (i, k.depth) ∷ k.pending } else k) h
      (either_is (LacksClosed n) b (record k { pending = (i, k.depth) ∷ k.pending }) k h h)

  greater_open : (x : Bool) (k : Known) (ps : List (ℕ × ℕ)) → (n == i) ≡ false → LacksClosed n k → LacksClosed n (at_greater i x k ps)
  greater_open x k [] e h = h
  greater_open x k (p ∷ ps) e h =
      either_is (LacksClosed n) (p.1 == k.depth) (record k { pending = ps; opened = p.0 ∷ k.opened; closed = i ∷ k.closed }) (record k { is_passed = x }) (or_from (n == i) (is_one_of k.closed n) e h) h

  sign_open : (b : Bool) (s : Text) (k : Known) → Other (codes ">") n i (a_sign s) → LacksClosed n k → LacksClosed n (at_sign i b s next k)
  sign_open b s k o h =
      either_is (LacksClosed n) (bytes_eq s (codes "<")) (at_less i b (bytes_eq next (codes "<")) (bytes_eq next (codes "=")) k) _ (less_open b (bytes_eq next (codes "<")) (bytes_eq next (codes "=")) k h)
      (second _ (bytes_eq s (codes ">")) refl
      (either_is (LacksClosed n) (bytes_eq s (codes "(") || bytes_eq s (codes "[")) (record k { depth = suc k.depth }) _ h
      (either_is (LacksClosed n) (bytes_eq s (codes ")") || bytes_eq s (codes "]")) (record k { pending = outside k.depth k.pending; depth = k.depth - 1 }) _ h
      (either_is (LacksClosed n) ((bytes_eq s (codes "!") || bytes_eq s (codes "=")) && bytes_eq next (codes "=")) (record k { is_passed = true }) _ h
      (either_is (LacksClosed n) (bytes_eq s (codes "&&") || bytes_eq s (codes "||")) (record k { pending = outside k.depth k.pending }) _ h
      (either_is (LacksClosed n) (bytes_eq s (codes "=") || bytes_eq s (codes ";") || bytes_eq s (codes "{") || bytes_eq s (codes ":")) (record k { pending = []; depth = 0 }) k h h)))))) where
        second : (x : Known) (z : Bool) → bytes_eq s (codes ">") ≡ z → LacksClosed n x → LacksClosed n (if z then at_greater i (bytes_eq next (codes "=")) k k.pending else x)
        second x false e g = g
        second x true e g = greater_open (bytes_eq next (codes "=")) k k.pending (other o) h where
          other : Other (codes ">") n i (a_sign s) → (n == i) ≡ false
          other (inl q) = q
          other (inr q) = absurd (no_true (turned q ∙ e))

  pub step_lacks : (w : What) (k : Known) → Other (codes "<") n i w → LacksOpen n k → LacksOpen n (known_behind i w next k)
  step_lacks w k o h = either_is (LacksOpen n) k.is_passed (record k { is_passed = false; behind_name = false }) (at_what i w next k) h (by w o) where
    by : (w : What) → Other (codes "<") n i w → LacksOpen n (at_what i w next k)
    by (a_name t) o = h
    by (a_number t) o = h
    by (a_sign t) o = sign_lacks k.behind_name t (record k { behind_name = false }) o h

  pub step_open : (w : What) (k : Known) → Other (codes ">") n i w → LacksClosed n k → LacksClosed n (known_behind i w next k)
  step_open w k o h = either_is (LacksClosed n) k.is_passed (record k { is_passed = false; behind_name = false }) (at_what i w next k) h (by w o) where
    by : (w : What) → Other (codes ">") n i w → LacksClosed n (at_what i w next k)
    by (a_name t) o = h
    by (a_number t) o = h
    by (a_sign t) o = sign_open k.behind_name t (record k { behind_name = false }) o h

-- a piece that has been passed stays what it is known to be
pub passed_lacks : (bs : List Bit) (n i : ℕ) (k : Known) → n < i → LacksOpen n k → LacksOpen n (known_from i k bs)
passed_lacks [] n i k l h = h
passed_lacks (b ∷ bs) n i k l h = passed_lacks bs n (suc i) (known_behind i b.what (sign_behind bs) k) (omega (arith, l)) (step_lacks n i (sign_behind bs) b.what k (inl (ne_eqb n i (λ e. let z : ⊥ = omega (arith, l, e) in z))) h)

pub passed_open : (bs : List Bit) (n i : ℕ) (k : Known) → n < i → LacksClosed n k → LacksClosed n (known_from i k bs)
passed_open [] n i k l h = h
passed_open (b ∷ bs) n i k l h = passed_open bs n (suc i) (known_behind i b.what (sign_behind bs) k) (omega (arith, l)) (step_open n i (sign_behind bs) b.what k (inl (ne_eqb n i (λ e. let z : ⊥ = omega (arith, l, e) in z))) h)

pub before_step : (i : ℕ) (w : What) (next : Text) (k : Known) → Before i k → Before (suc i) (known_behind i w next k)
before_step i w next k h n l =
    let e : (n == i) ≡ false = ne_eqb n i (λ e. let z : ⊥ = omega (arith, l, e) in z) in
    let x : LacksOpen n k × LacksClosed n k = h n (omega (arith, l)) in
    (step_lacks n i next w k (inl e) x.0, step_open n i next w k (inl e) x.1)

-- a piece that opens a list is `<`, and one that closes one is `>`
pub opens_by : (i : ℕ) (k : Known) (b : Bit) (bs : List Bit) → Before i k → is_one_of (known_from i k (b ∷ bs)).opened i ≡ true → is_mark (codes "<") b.what ≡ true
opens_by i k b bs h e = by (is_mark (codes "<") b.what) refl where
  by : (z : Bool) → is_mark (codes "<") b.what ≡ z → z ≡ true
  by true q = refl
  by false q = absurd (no_true (turned (passed_lacks bs i (suc i) (known_behind i b.what (sign_behind bs) k) (omega arith) (step_lacks i i (sign_behind bs) b.what k (inr q) (h i (omega arith)).0)).0 ∙ e))

pub closes_by : (i : ℕ) (k : Known) (b : Bit) (bs : List Bit) → Before i k → is_one_of (known_from i k (b ∷ bs)).closed i ≡ true → is_mark (codes ">") b.what ≡ true
closes_by i k b bs h e = by (is_mark (codes ">") b.what) refl where
  by : (z : Bool) → is_mark (codes ">") b.what ≡ z → z ≡ true
  by true q = refl
  by false q = absurd (no_true (turned (passed_open bs i (suc i) (known_behind i b.what (sign_behind bs) k) (omega arith) (step_open i i (sign_behind bs) b.what k (inr q) (h i (omega arith)).1)) ∙ e))
