-- Within parentheses that were opened where nothing was pending: what is pending stands in them, so that nothing is behind them.
use Rattle.std.proofs.Common.{◌≡◌, ◌≤◌, ◌<◌, ◌⊎◌, inl, inr, ℕ, zero, suc, ◌-◌, Bool, true, false, not, ◌&&◌, ◌||◌, ◌==◌, if◌then◌else◌, List, [], ◌∷◌, refl, sym as turned, ap, ◌∙◌, subst, codes, bytes_eq, nat_lt, arith}
use Rattle.std.proofs.lemmas.Bool.{and_parts, or_parts}
use Rattle.std.proofs.lemmas.Bool.Decides.{leb_tells}
use Rattle.wesl_tree_names.specs.Path.{Text}
use Rattle.wesl_text_tokens.specs.declared.symbol.Symbol.{Symbol}
use Rattle.wesl_text_tokens.specs.declared.symbol.Symbol.TheVariants as is
use Rattle.wesl_text_tokens.specs.Symbols.{symbol_text}
use Rattle.wesl_text_tokens.specs.Pieces.{What, a_name, a_number, a_sign, Bit}
use Rattle.wesl_text_tokens.specs.Brackets.{Known, outside, sign_behind, at_greater, at_less, at_sign, at_what, known_behind, known_from}
use Rattle.wesl_text_tokens.specs.Tokens.{symbol}
use Rattle.wesl_text_tokens.proofs.SymbolTexts.{each}
use Rattle.wesl_text_form.specs.Says.{sign_bits, token_bits}
use Rattle.wesl_text_reading.proofs.Filled.{no_true}
use Rattle.wesl_text_reading.proofs.Classes.{denied}
use Rattle.wesl_text_writable.proofs.Fresh.{either_is}
use Rattle.wesl_text_respell.proofs.Moved.{on}

-- each stands in so many parentheses, but for n of them
abbrev pub AllWithin : ℕ → ℕ → List (ℕ × ℕ) → Type 0
AllWithin n d [] = Unit {0}
AllWithin n d (p ∷ ps) = (d ≤ on n p.1) × AllWithin n d ps

abbrev pub IsEnclosed : ℕ → Known → Type 0
IsEnclosed n k = AllWithin n k.depth k.pending

on_more : (n i : ℕ) → i ≤ on n i
on_more zero i = omega arith
on_more (suc n) i = omega (arith, on_more n i)

outside_within : (n d m : ℕ) (ps : List (ℕ × ℕ)) → AllWithin n d ps → AllWithin n d (outside m ps)
outside_within n d m [] h = tt
outside_within n d m (p ∷ ps) h = either_is (AllWithin n d) (nat_lt p.1 m) (p ∷ ps) (outside m ps) h (outside_within n d m ps h.1)

-- one more is open, or one less
deeper_within : (n d : ℕ) (ps : List (ℕ × ℕ)) → AllWithin n d ps → AllWithin (suc n) (suc d) ps
deeper_within n d [] h = tt
deeper_within n d (p ∷ ps) h = (omega (arith, h.0), deeper_within n d ps h.1)

left_within : (n d : ℕ) (ps : List (ℕ × ℕ)) → AllWithin (suc n) d ps → AllWithin n (d - 1) ps
left_within n d [] h = tt
left_within n d (p ∷ ps) h = (omega (arith, h.0), left_within n d ps h.1)

-- behind the outermost nothing is pending
none_outside : (d : ℕ) (ps : List (ℕ × ℕ)) → AllWithin 0 d ps → outside d ps ≡ []
none_outside d [] h = refl
none_outside d (p ∷ ps) h = by (nat_lt p.1 d) (less (leb_tells (suc p.1) d)) (none_outside d ps h.1) where
  less : ((nat_lt p.1 d ≡ true) × (suc p.1 ≤ d)) ⊎ ((nat_lt p.1 d ≡ false) × (d < suc p.1)) → nat_lt p.1 d ≡ false
  less (inl x) = let z : ⊥ = omega (arith, x.1, h.0) in absurd z
  less (inr x) = x.0

  by : (z : Bool) → z ≡ false → outside d ps ≡ [] → (if z then p ∷ ps else outside d ps) ≡ []
  by true e g = absurd (no_true (turned e))
  by false e g = g

-- ---- pieces that are no parentheses

abbrev is_opening : Text → Bool
is_opening s = bytes_eq s (codes "(") || bytes_eq s (codes "[")

abbrev is_closing : Text → Bool
is_closing s = bytes_eq s (codes ")") || bytes_eq s (codes "]")

abbrev is_outside : What → Bool
is_outside (a_sign s) = not (is_opening s || is_closing s)
is_outside w = true

abbrev are_outside : List Bit → Bool
are_outside [] = true
are_outside (b ∷ bs) = is_outside b.what && are_outside bs

second_is : (P : Known → Type 0) (b : Bool) (x y : Known) → b ≡ false → P y → P (if b then x else y)
second_is P true x y e h = absurd (no_true (turned e))
second_is P false x y e h = h

module _ (n i : ℕ) (next : Text) where
  less_within : (b x y : Bool) (k : Known) → IsEnclosed n k → IsEnclosed n (at_less i b x y k)
  less_within b x y k h =
      either_is (IsEnclosed n) (y || (b && x)) (record k { is_passed = true }) (if b then record k { pending = (i, k.depth) ∷ k.pending } else k) h
      (either_is (IsEnclosed n) b (record k { pending = (i, k.depth) ∷ k.pending }) k (on_more n k.depth, h) h)

  greater_within : (y : Bool) (k : Known) → IsEnclosed n k → (ps : List (ℕ × ℕ)) → AllWithin n k.depth ps → IsEnclosed n (at_greater i y k ps)
  greater_within y k h [] g = h
  greater_within y k h (p ∷ ps) g = either_is (IsEnclosed n) (p.1 == k.depth) (record k { pending = ps; opened = p.0 ∷ k.opened; closed = i ∷ k.closed }) (record k { is_passed = y }) g.1 h

  sign_within : (b : Bool) (s : Text) (k : Known) → is_opening s ≡ false → is_closing s ≡ false → IsEnclosed n k → IsEnclosed n (at_sign i b s next k)
  sign_within b s k o c h =
      either_is (IsEnclosed n) (bytes_eq s (codes "<")) (at_less i b (bytes_eq next (codes "<")) (bytes_eq next (codes "=")) k) _ (less_within b (bytes_eq next (codes "<")) (bytes_eq next (codes "=")) k h)
      (either_is (IsEnclosed n) (bytes_eq s (codes ">")) (at_greater i (bytes_eq next (codes "=")) k k.pending) _ (greater_within (bytes_eq next (codes "=")) k h k.pending h)
      (second_is (IsEnclosed n) (is_opening s) (record k { depth = suc k.depth }) _ o
      (second_is (IsEnclosed n) (is_closing s) (record k { pending = outside k.depth k.pending; depth = k.depth - 1 }) _ c
      (either_is (IsEnclosed n) ((bytes_eq s (codes "!") || bytes_eq s (codes "=")) && bytes_eq next (codes "=")) (record k { is_passed = true }) _ h
      (either_is (IsEnclosed n) (bytes_eq s (codes "&&") || bytes_eq s (codes "||")) (record k { pending = outside k.depth k.pending }) _ (outside_within n k.depth k.depth k.pending h)
      (either_is (IsEnclosed n) (bytes_eq s (codes "=") || bytes_eq s (codes ";") || bytes_eq s (codes "{") || bytes_eq s (codes ":")) (record k { pending = []; depth = 0 }) k tt h))))))

  piece_within : (w : What) (k : Known) → is_outside w ≡ true → IsEnclosed n k → IsEnclosed n (known_behind i w next k)
  piece_within w k o h = either_is (IsEnclosed n) k.is_passed (record k { is_passed = false; behind_name = false }) (at_what i w next k) h (by w o) where
    by : (w : What) → is_outside w ≡ true → IsEnclosed n (at_what i w next k)
    by (a_name t) o = h
    by (a_number t) o = h
    by (a_sign s) o =
        let x : (is_opening s ≡ false) × (is_closing s ≡ false) = or_parts (is_opening s) (is_closing s) (denied (is_opening s || is_closing s) o) in
        sign_within k.behind_name s (record k { behind_name = false }) x.0 x.1 h

pub bits_within : (n : ℕ) (bs : List Bit) (i : ℕ) (k : Known) → are_outside bs ≡ true → IsEnclosed n k → IsEnclosed n (known_from i k bs)
bits_within n [] i k o h = h
bits_within n (b ∷ bs) i k o h =
    let x : (is_outside b.what ≡ true) × (are_outside bs ≡ true) = and_parts (is_outside b.what) (are_outside bs) o in
    bits_within n bs (suc i) (known_behind i b.what (sign_behind bs) k) x.1 (piece_within n i (sign_behind bs) b.what k x.0 h)

-- ---- symbols

abbrev pub is_parenthesis : Symbol → Bool
is_parenthesis is.ParenLeft = true
is_parenthesis is.ParenRight = true
is_parenthesis is.BracketLeft = true
is_parenthesis is.BracketRight = true
is_parenthesis s = false

pub symbol_within : (n : ℕ) (s : Symbol) (i : ℕ) (k : Known) → is_parenthesis s ≡ false → IsEnclosed n k → IsEnclosed n (known_from i k (token_bits (symbol s)))
symbol_within n s i k p h = bits_within n (sign_bits (symbol_text s)) i k (by (is_parenthesis s) p (each (λ z. is_parenthesis z || are_outside (sign_bits (symbol_text z))) refl s)) h where
  by : (b : Bool) → b ≡ false → (b || are_outside (sign_bits (symbol_text s))) ≡ true → are_outside (sign_bits (symbol_text s)) ≡ true
  by true e g = absurd (no_true (turned e))
  by false e g = g

-- one that opens, and one that closes
module _ (i : ℕ) (k : Known) (h : k.is_passed ≡ false) where
  abbrev opened : Known
  opened = record k { behind_name = false; depth = suc k.depth }

  abbrev closed : Known
  closed = record k { behind_name = false; pending = outside k.depth k.pending; depth = k.depth - 1 }

  is_plain : (x y : Known) → (if k.is_passed then x else y) ≡ y
  is_plain x y = ap (λ z. if z then x else y) h

  abbrev passed : Known
  passed = record k { is_passed = false; behind_name = false }

  pub opening_within : (n : ℕ) → IsEnclosed n k → (x : Known) → x ≡ (if k.is_passed then passed else opened) → IsEnclosed (suc n) x
  opening_within n g x e = subst (IsEnclosed (suc n)) (turned (e ∙ is_plain passed opened)) (deeper_within n k.depth k.pending g)

  pub first_within : k.pending ≡ [] → (x : Known) → x ≡ (if k.is_passed then passed else opened) → IsEnclosed 0 x
  first_within g x e = subst (IsEnclosed 0) (turned (e ∙ is_plain passed opened)) (subst (AllWithin 0 (suc k.depth)) (turned g) tt)

  pub closing_within : (n : ℕ) → IsEnclosed (suc n) k → (x : Known) → x ≡ (if k.is_passed then passed else closed) → IsEnclosed n x
  closing_within n g x e = subst (IsEnclosed n) (turned (e ∙ is_plain passed closed)) (left_within n k.depth (outside k.depth k.pending) (outside_within (suc n) k.depth k.depth k.pending g))

  pub last_within : IsEnclosed 0 k → (x : Known) → x ≡ (if k.is_passed then passed else closed) → x.pending ≡ []
  last_within g x e = ap (λ z. z.pending) (e ∙ is_plain passed closed) ∙ none_outside k.depth k.pending g
