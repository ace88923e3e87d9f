-- Tokens with other names, and without steps of paths, are meant as before.
use Rattle.std.proofs.Common.{◌≡◌, ℕ, Bool, true, false, not, ◌&&◌, if◌then◌else◌, List, [], ◌∷◌, ◌++◌, Option, None, refl, sym as turned, ap, ◌∙◌, subst, codes}
use Rattle.wesl_tree_names.specs.Path.{Text}
use Rattle.wesl_text_tokens.specs.declared.symbol.Symbol.{Symbol}
use Rattle.wesl_text_tokens.specs.declared.symbol.Symbol.TheVariants as is
use Rattle.wesl_text_tokens.specs.Pieces.{Bit}
use Rattle.wesl_text_tokens.specs.Brackets.{Known, nothing_known, brackets, known_from}
use Rattle.wesl_text_tokens.specs.Tokens.{Token, name, number, symbol, open_list, close_list, tokens_of_bits}
use Rattle.wesl_text_tokens.proofs.SymbolTexts.{each}
use Rattle.wesl_text_form.specs.Slots.{Slot, must, may, alone, fewest}
use Rattle.wesl_text_form.specs.Says.{token_bits, bits_apart}
use Rattle.wesl_text_writable.proofs.Signs.{is_piece, lone, meet, BitsFit}
use Rattle.wesl_text_writable.proofs.Grouped.{number_behind, Grouped, grouped}
use Rattle.wesl_text_writable.proofs.KnownApart.{known_apart}
use Rattle.wesl_text_writable.proofs.MadeApart.{AllBracketed, AreMeant}
use Rattle.wesl_text_writable.proofs.LeftOut.{left_out, forgotten_unseen, name_forgotten, unmarked_first}
use Rattle.wesl_text_respell.proofs.Related.{IsLike, none, as_is, other, fewer}
use Rattle.std.proofs.lemmas.Bool.{and_parts}
use Rattle.wesl_text_reading.proofs.Classes.{denied}
use Rattle.wesl_text_writable.proofs.Printed.{moved}

-- ---- another name

known_other : (done : List Token) (x y : Text) (us : List Token) (i : ℕ) (k : Known) → known_from i k (bits_apart (done ++ name x ∷ us)) ≡ known_from i k (bits_apart (done ++ name y ∷ us))
known_other [] x y us i k = refl
known_other (t ∷ done) x y us i k =
    known_apart t (done ++ name x ∷ us) i k ∙ (known_other done x y us (number_behind i (token_bits t)) (known_from i k (token_bits t)) ∙ turned (known_apart t (done ++ name y ∷ us) i k))

bracketed_other : (final : Known) (done : List Token) (x y : Text) (us : List Token) (i : ℕ) → AllBracketed final i (done ++ name x ∷ us) → AllBracketed final i (done ++ name y ∷ us)
bracketed_other final [] x y us i a = a
bracketed_other final (t ∷ done) x y us i a = (a.0, bracketed_other final done x y us (number_behind i (token_bits t)) a.1)

name_other : (done : List Token) (x y : Text) (us : List Token) → AreMeant (done ++ name x ∷ us) → AreMeant (done ++ name y ∷ us)
name_other done x y us a =
    subst (λ z. AllBracketed z 0 (done ++ name y ∷ us)) (known_other done x y us 0 nothing_known) (bracketed_other (brackets (bits_apart (done ++ name x ∷ us))) done x y us 0 a)

-- ---- a step of a path less

colons_forgotten : (i : ℕ) (k : Known) → k.is_passed ≡ false → (b : Bool) × (known_from i k (token_bits (symbol is.ColonColon)) ≡ record k { behind_name = b })
colons_forgotten i k h = (false, ap (λ z. if z then record k { is_passed = false; behind_name = false } else record k { behind_name = false }) h)

step_gone : (done : List Token) (w x : Text) (us : List Token) → AreMeant (done ++ name w ∷ symbol is.ColonColon ∷ name x ∷ us) → AreMeant (done ++ name x ∷ us)
step_gone done w x us a =
    left_out done (name x ∷ us) (symbol is.ColonColon) _ (refl, refl, refl) (forgotten_unseen (symbol is.ColonColon) colons_forgotten done (name x ∷ us) (unmarked_first (name x ∷ us) refl))
    (left_out done (symbol is.ColonColon ∷ name x ∷ us) (name w) _ (refl, refl, refl) (forgotten_unseen (name w) (name_forgotten w) done (symbol is.ColonColon ∷ name x ∷ us) (unmarked_first (symbol is.ColonColon ∷ name x ∷ us) refl)) a)

-- ---- all tokens that must stand

one_more : (t : Token) (done ts us : List Token) → (AreMeant ((done ++ t ∷ []) ++ ts) → AreMeant ((done ++ t ∷ []) ++ us)) → AreMeant (done ++ t ∷ ts) → AreMeant (done ++ t ∷ us)
one_more t done ts us f a = subst AreMeant (moved done t us) (f (subst AreMeant (turned (moved done t ts)) a))

like_meant : {ss us : List Slot} → IsLike ss us → (done : List Token) → AreMeant (done ++ fewest ss) → AreMeant (done ++ fewest us)
like_meant none done a = a
like_meant (as_is {ss = ss} {us = us} (must t) r) done a = one_more t done (fewest ss) (fewest us) (like_meant r (done ++ t ∷ [])) a
like_meant (as_is (may t) r) done a = like_meant r done a
like_meant (as_is {ss = ss} {us = us} alone r) done a = one_more (name (codes "default")) done (fewest ss) (fewest us) (like_meant r (done ++ name (codes "default") ∷ [])) a
like_meant (other {ss = ss} {us = us} x y r) done a = one_more (name y) done (fewest ss) (fewest us) (like_meant r (done ++ name y ∷ [])) (name_other done x y (fewest ss) a)
like_meant (fewer {ss = ss} w x r) done a = like_meant r done (step_gone done w x (fewest ss) a)

-- the tokens of slots that are like others are meant where those are
pub meant_like : {ss us : List Slot} → IsLike ss us → AreMeant (fewest ss) → AreMeant (fewest us)
meant_like r a = like_meant r [] a

-- ---- tokens that stand apart as they are, are meant

-- the pieces of a token, behind another
abbrev fit_behind : List Bit → Bool
fit_behind [] = true
fit_behind (b ∷ []) = is_piece b.what
fit_behind (b ∷ c ∷ cs) = is_piece b.what && (not (c.is_glued && meet (lone b.what) (lone c.what)) && fit_behind (c ∷ cs))

-- of which the first is not glued
abbrev fit_apart : List Bit → Bool
fit_apart [] = true
fit_apart (b ∷ bs) = not b.is_glued && fit_behind (b ∷ bs)

symbols_fit : (s : Symbol) → fit_apart (token_bits (symbol s)) ≡ true
symbols_fit s = each (λ z. fit_apart (token_bits (symbol z))) refl s

first_piece : (b : Bit) (bs : List Bit) → fit_behind (b ∷ bs) ≡ true → is_piece b.what ≡ true
first_piece b [] h = h
first_piece b (c ∷ cs) h = (and_parts (is_piece b.what) (not (c.is_glued && meet (lone b.what) (lone c.what)) && fit_behind (c ∷ cs)) h).0

fits_behind : (b : Bit) (bs rest : List Bit) → fit_behind (b ∷ bs) ≡ true → ((p : Option ℕ) → BitsFit p rest) → BitsFit (lone b.what) (bs ++ rest)
fits_behind b [] rest h f = f (lone b.what)
fits_behind b (c ∷ cs) rest h f =
    let x : (not (c.is_glued && meet (lone b.what) (lone c.what)) ≡ true) × (fit_behind (c ∷ cs) ≡ true)
    = and_parts (not (c.is_glued && meet (lone b.what) (lone c.what))) (fit_behind (c ∷ cs)) (and_parts (is_piece b.what) (not (c.is_glued && meet (lone b.what) (lone c.what)) && fit_behind (c ∷ cs)) h).1 in
    (first_piece c cs x.1, denied (c.is_glued && meet (lone b.what) (lone c.what)) x.0, fits_behind c cs rest x.1 f)

fits_apart : (bs rest : List Bit) → fit_apart bs ≡ true → ((p : Option ℕ) → BitsFit p rest) → (p : Option ℕ) → BitsFit p (bs ++ rest)
fits_apart [] rest h f p = f p
fits_apart (b ∷ bs) rest h f p =
    let x : (not b.is_glued ≡ true) × (fit_behind (b ∷ bs) ≡ true) = and_parts (not b.is_glued) (fit_behind (b ∷ bs)) h in
    (first_piece b bs x.1, ap (λ z. z && meet p (lone b.what)) (denied b.is_glued x.0), fits_behind b bs rest x.1 f)

token_fits : (t : Token) → fit_apart (token_bits t) ≡ true
token_fits (name t) = refl
token_fits (number t) = refl
token_fits (symbol s) = symbols_fit s
token_fits open_list = refl
token_fits close_list = refl

all_fit : (ts : List Token) (p : Option ℕ) → BitsFit p (bits_apart ts)
all_fit [] p = tt
all_fit (t ∷ ts) p = fits_apart (token_bits t) (bits_apart ts) (token_fits t) (all_fit ts) p

grouped_bracketed : (final : Known) (ts : List Token) (bs : List Bit) (i : ℕ) → Grouped final i ts bs → AllBracketed final i ts
grouped_bracketed final [] bs i x = tt
grouped_bracketed final (t ∷ ts) bs i x = (x.3, grouped_bracketed final ts x.1 (number_behind i (token_bits t)) x.4)

pub apart_meant : (ts : List Token) → tokens_of_bits (bits_apart ts) ≡ ts → AreMeant ts
apart_meant ts e =
    grouped_bracketed (brackets (bits_apart ts)) ts (bits_apart ts) 0 (subst (λ z. Grouped (brackets (bits_apart ts)) 0 z (bits_apart ts)) e (grouped (bits_apart ts) (all_fit ts None)))
