-- Tokens among which none is, or begins with, `<` or `>`, are meant.
use Rattle.std.proofs.Common.{◌≡◌, ℕ, suc, ◌-◌, Bool, true, false, ◌&&◌, List, [], ◌∷◌, ◌++◌, refl, sym as turned, ap, ◌∙◌, subst}
use Rattle.wesl_text_tokens.specs.declared.symbol.Symbol.TheVariants as is
use Rattle.wesl_text_tokens.specs.Characters.{is_one_of}
use Rattle.wesl_text_tokens.specs.Symbols.{symbol_text}
use Rattle.wesl_text_tokens.specs.Pieces.{Bit}
use Rattle.wesl_text_tokens.specs.Brackets.{Known, nothing_known, outside, brackets, known_from}
use Rattle.wesl_text_tokens.specs.Tokens.{Token, name, number, symbol, open_list, close_list}
use Rattle.wesl_text_form.specs.Slots.{Slot, must, may, alone, fewest}
use Rattle.wesl_text_form.specs.Says.{sign_bits, token_bits, bits_apart}
use Rattle.wesl_text_reading.proofs.Filled.{no_true}
use Rattle.wesl_text_writable.proofs.Fresh.{either_is}
use Rattle.wesl_text_writable.proofs.Grouped.{number_behind, NoBrackets, IsBracketed}
use Rattle.wesl_text_writable.proofs.KnownApart.{known_apart}
use Rattle.wesl_text_writable.proofs.MadeApart.{AllBracketed, AreMeant}
use Rattle.std.proofs.lemmas.Bool.{and_parts}

-- the tokens of formulas, and of conditions
abbrev pub is_plain : Token → Bool
is_plain (name t) = true
is_plain (symbol is.ColonColon) = true
is_plain (symbol is.Bang) = true
is_plain (symbol is.AndAnd) = true
is_plain (symbol is.OrOr) = true
is_plain (symbol is.ParenLeft) = true
is_plain (symbol is.ParenRight) = true
is_plain (symbol is.At) = true
is_plain t = false

abbrev pub are_plain : List Slot → Bool
are_plain [] = true
are_plain (must t ∷ ss) = is_plain t && are_plain ss
are_plain (may t ∷ ss) = are_plain ss
are_plain (alone ∷ ss) = false

pub plain_joined : (ss us : List Slot) → are_plain ss ≡ true → are_plain us ≡ true → are_plain (ss ++ us) ≡ true
plain_joined [] us h g = g
plain_joined (must t ∷ ss) us h g =
    let x : (is_plain t ≡ true) × (are_plain ss ≡ true) = and_parts (is_plain t) (are_plain ss) h in
    ap (λ z. z && are_plain (ss ++ us)) x.0 ∙ plain_joined ss us x.1 g
plain_joined (may t ∷ ss) us h g = plain_joined ss us h g
plain_joined (alone ∷ ss) us h g = absurd (no_true h)

abbrev all_plain : List Token → Bool
all_plain [] = true
all_plain (t ∷ ts) = is_plain t && all_plain ts

plain_fewest : (ss : List Slot) → are_plain ss ≡ true → all_plain (fewest ss) ≡ true
plain_fewest [] h = refl
plain_fewest (must t ∷ ss) h =
    let x : (is_plain t ≡ true) × (are_plain ss ≡ true) = and_parts (is_plain t) (are_plain ss) h in
    ap (λ z. z && all_plain (fewest ss)) x.0 ∙ plain_fewest ss x.1
plain_fewest (may t ∷ ss) h = plain_fewest ss h
plain_fewest (alone ∷ ss) h = absurd (no_true h)

-- nothing is pending, and no bracket is found
abbrev Bare : Known → Type 0
Bare k = (k.pending ≡ []) × (k.opened ≡ []) × (k.closed ≡ [])

outside_none : (k : Known) → Bare k → outside k.depth k.pending ≡ []
outside_none k h = ap (outside k.depth) h.0

bare_step : (t : Token) (i : ℕ) (k : Known) → is_plain t ≡ true → Bare k → Bare (known_from i k (token_bits t))
bare_step (name t) i k p h = either_is Bare k.is_passed (record k { is_passed = false; behind_name = false }) (record k { behind_name = true }) h h
bare_step (symbol is.ColonColon) i k p h = either_is Bare k.is_passed (record k { is_passed = false; behind_name = false }) (record k { behind_name = false }) h h
bare_step (symbol is.At) i k p h = either_is Bare k.is_passed (record k { is_passed = false; behind_name = false }) (record k { behind_name = false }) h h
bare_step (symbol is.Bang) i k p h = either_is Bare k.is_passed (record k { is_passed = false; behind_name = false }) (record k { behind_name = false }) h h
bare_step (symbol is.AndAnd) i k p h =
    either_is Bare k.is_passed (record k { is_passed = false; behind_name = false }) (record k { behind_name = false; pending = outside k.depth k.pending }) h (outside_none k h, h.1, h.2)
bare_step (symbol is.OrOr) i k p h =
    either_is Bare k.is_passed (record k { is_passed = false; behind_name = false }) (record k { behind_name = false; pending = outside k.depth k.pending }) h (outside_none k h, h.1, h.2)
bare_step (symbol is.ParenLeft) i k p h = either_is Bare k.is_passed (record k { is_passed = false; behind_name = false }) (record k { behind_name = false; depth = suc k.depth }) h h
bare_step (symbol is.ParenRight) i k p h =
    either_is Bare k.is_passed (record k { is_passed = false; behind_name = false }) (record k { behind_name = false; pending = outside k.depth k.pending; depth = k.depth - 1 }) h (outside_none k h, h.1, h.2)
bare_step t i k p h = absurd (no_true p)

bare_all : (ts : List Token) (i : ℕ) (k : Known) → all_plain ts ≡ true → Bare k → Bare (known_from i k (bits_apart ts))
bare_all [] i k p h = h
bare_all (t ∷ ts) i k p h =
    let x : (is_plain t ≡ true) × (all_plain ts ≡ true) = and_parts (is_plain t) (all_plain ts) p in
    subst Bare (turned (known_apart t ts i k)) (bare_all ts (number_behind i (token_bits t)) (known_from i k (token_bits t)) x.1 (bare_step t i k x.0 h))

module _ (final : Known) (h : Bare final) where
  no_brackets : (bs : List Bit) (i : ℕ) → NoBrackets final i bs
  no_brackets [] i = tt
  no_brackets (b ∷ bs) i = (ap (λ z. is_one_of z i) h.1, ap (λ z. is_one_of z i) h.2, no_brackets bs (suc i))

  token_bracketed : (t : Token) (i : ℕ) → is_plain t ≡ true → IsBracketed final i t
  token_bracketed (name t) i p = tt
  token_bracketed (number t) i p = absurd (no_true p)
  token_bracketed (symbol s) i p = no_brackets (sign_bits (symbol_text s)) i
  token_bracketed open_list i p = absurd (no_true p)
  token_bracketed close_list i p = absurd (no_true p)

  all_bracketed : (ts : List Token) (i : ℕ) → all_plain ts ≡ true → AllBracketed final i ts
  all_bracketed [] i p = tt
  all_bracketed (t ∷ ts) i p =
      let x : (is_plain t ≡ true) × (all_plain ts ≡ true) = and_parts (is_plain t) (all_plain ts) p in
      (token_bracketed t i x.0, all_bracketed ts (number_behind i (token_bits t)) x.1)

pub plain_meant : (ss : List Slot) → are_plain ss ≡ true → AreMeant (fewest ss)
plain_meant ss h =
    let p : all_plain (fewest ss) ≡ true = plain_fewest ss h in
    all_bracketed (brackets (bits_apart (fewest ss))) (bare_all (fewest ss) 0 nothing_known p (refl, refl, refl)) (fewest ss) 0 p
