-- Tokens that are meant are meant where only those that must stand are left.
use Rattle.std.proofs.Common.{◌≡◌, Bool, true, false, not, ◌&&◌, ◌||◌, if◌then◌else◌, List, [], ◌∷◌, ◌++◌, Option, Some, None, option_and_then, refl, sym as turned, ap, ◌∙◌, subst, append_assoc, codes}
use Rattle.wesl_text_tokens.specs.declared.symbol.Symbol.TheVariants as is
use Rattle.wesl_text_tokens.specs.Tokens.{Token, name, symbol}
use Rattle.wesl_text_form.specs.Slots.{Slot, must, may, alone, same_token, behind_token, behind_if_there, comes_first, left, fewest}
use Rattle.wesl_text_reading.proofs.Filled.{no_some, of_some, no_true, same_is, stands}
use Rattle.wesl_text_writable.proofs.Clear.{is_left_out, is_hard_before, is_clear_before}
use Rattle.wesl_text_writable.proofs.KnownApart.{touches}
use Rattle.wesl_text_writable.proofs.Quiet.{mark_first, filled_is}
use Rattle.wesl_text_writable.proofs.MadeApart.{AreMeant}
use Rattle.wesl_text_writable.proofs.Braced.{is_comma, is_braced}
use Rattle.wesl_text_writable.proofs.Braces.{braced_clears}
use Rattle.wesl_text_writable.proofs.LeftOut.{ClearsSame, left_out, forgotten_unseen, comma_forgotten, name_forgotten, unmarked_first, colon_unseen}
use Rattle.std.proofs.lemmas.Bool.{and_parts}

abbrev Printed : List Slot → Type 0
Printed ss = (done ts : List Token) → is_clear_before true ss ≡ true → left ss ts ≡ Some [] → AreMeant (done ++ ts) → AreMeant (done ++ fewest ss)

-- a token stays
pub moved : (done : List Token) (t : Token) (ts : List Token) → (done ++ t ∷ []) ++ ts ≡ done ++ t ∷ ts
moved done t ts = append_assoc done (t ∷ []) ts

one_more : (t : Token) (ss : List Slot) (done vs : List Token) → Printed ss → is_clear_before true ss ≡ true → left ss vs ≡ Some [] → AreMeant (done ++ t ∷ vs) → AreMeant (done ++ t ∷ fewest ss)
one_more t ss done vs later c h a = subst AreMeant (moved done t (fewest ss)) (later (done ++ t ∷ []) vs c h (subst AreMeant (turned (moved done t vs)) a))

without_comma : (done us : List Token) → mark_first us ≡ false → AreMeant (done ++ symbol is.Comma ∷ us) → AreMeant (done ++ us)
without_comma done us m a = left_out done us (symbol is.Comma) _ (refl, refl, refl) (forgotten_unseen (symbol is.Comma) comma_forgotten done us (unmarked_first us m)) a

without_case : (done us : List Token) → mark_first us ≡ false → AreMeant (done ++ name (codes "case") ∷ us) → AreMeant (done ++ us)
without_case done us m a = left_out done us (name (codes "case")) _ (refl, refl, refl) (forgotten_unseen (name (codes "case")) (name_forgotten (codes "case")) done us (unmarked_first us m)) a

without_colon : (done us : List Token) → ClearsSame us → AreMeant (done ++ symbol is.Colon ∷ us) → AreMeant (done ++ us)
without_colon done us f a = left_out done us (symbol is.Colon) _ (refl, refl, refl) (colon_unseen done us f) a

-- without a token that may stand
without : (t : Token) (ss : List Slot) (done us : List Token) → is_left_out t ≡ true → (is_comma t || is_braced 0 ss) ≡ true → left ss us ≡ Some [] → mark_first us ≡ false → AreMeant (done ++ t ∷ us) → AreMeant (done ++ us)
without (symbol is.Comma) ss done us e s h m a = without_comma done us m a
without (symbol is.Colon) ss done us e s h m a = without_colon done us (braced_clears ss us s h m) a
without t ss done us e s h m a = absurd (no_true e)

may_printed : (t : Token) (ss : List Slot) → Printed ss → Printed (may t ∷ ss)
may_printed t ss later done ts c h a = by ts h a where
  x : (is_left_out t ≡ true) × (((is_comma t || is_braced 0 ss) && (is_hard_before true ss && is_clear_before true ss)) ≡ true)
  x = and_parts (is_left_out t) ((is_comma t || is_braced 0 ss) && (is_hard_before true ss && is_clear_before true ss)) c

  w : ((is_comma t || is_braced 0 ss) ≡ true) × ((is_hard_before true ss && is_clear_before true ss) ≡ true)
  w = and_parts (is_comma t || is_braced 0 ss) (is_hard_before true ss && is_clear_before true ss) x.1

  y : (is_hard_before true ss ≡ true) × (is_clear_before true ss ≡ true)
  y = and_parts (is_hard_before true ss) (is_clear_before true ss) w.1

  by : (ts : List Token) → left ss (behind_if_there t ts) ≡ Some [] → AreMeant (done ++ ts) → AreMeant (done ++ fewest ss)
  by [] h a = later done [] y.1 h a
  by (u ∷ us) h a = at (same_token t u) refl h where
    at : (z : Bool) → same_token t u ≡ z → left ss (if z then us else u ∷ us) ≡ Some [] → AreMeant (done ++ fewest ss)
    at false e g = later done (u ∷ us) y.1 g a
    at true e g = later done us y.1 g (without t ss done us x.0 w.0 g ((filled_is ss us y.1 g).1 y.0) (subst (λ z. AreMeant (done ++ z ∷ us)) (turned (same_is t u e)) a))

-- `case` and a comma are left out
alone_printed : (ss : List Slot) → Printed ss → Printed (alone ∷ ss)
alone_printed ss later done [] c h a = absurd (no_some [] h)
alone_printed ss later done (t ∷ ts) c h a = by (same_token (name (codes "default")) t) refl (same_token (name (codes "case")) t && comes_first (name (codes "default")) ts) refl h where
  y : (is_hard_before true ss ≡ true) × (is_clear_before true ss ≡ true)
  y = and_parts (is_hard_before true ss) (is_clear_before true ss) c

  last : (us : List Token) → left ss us ≡ Some [] → AreMeant (done ++ name (codes "default") ∷ us) → AreMeant (done ++ name (codes "default") ∷ fewest ss)
  last us g a = one_more (name (codes "default")) ss done us later y.1 g a

  comma : (us : List Token) → left ss (behind_if_there (symbol is.Comma) us) ≡ Some [] → AreMeant (done ++ name (codes "default") ∷ us) → AreMeant (done ++ name (codes "default") ∷ fewest ss)
  comma [] g a = last [] g a
  comma (u ∷ us) g a = at (same_token (symbol is.Comma) u) refl g where
    at : (z : Bool) → same_token (symbol is.Comma) u ≡ z → left ss (if z then us else u ∷ us) ≡ Some [] → AreMeant (done ++ name (codes "default") ∷ fewest ss)
    at false e g = last (u ∷ us) g a
    at true e g =
        last us g (subst AreMeant (moved done (name (codes "default")) us)
        (without_comma (done ++ name (codes "default") ∷ []) us ((filled_is ss us y.1 g).1 y.0)
        (subst AreMeant (turned (moved done (name (codes "default")) (symbol is.Comma ∷ us))) (subst (λ z. AreMeant (done ++ name (codes "default") ∷ z ∷ us)) (turned (same_is (symbol is.Comma) u e)) a))))

  word : (us : List Token) → comes_first (name (codes "default")) us ≡ true → left ss (behind_if_there (symbol is.Comma) (behind_if_there (name (codes "default")) us)) ≡ Some [] → AreMeant (done ++ name (codes "case") ∷ us) → AreMeant (done ++ name (codes "default") ∷ fewest ss)
  word [] e g a = absurd (no_true e)
  word (u ∷ us) e g a =
      let i : name (codes "default") ≡ u = same_is (name (codes "default")) u e in
      comma us (turned (ap (λ z. left ss (behind_if_there (symbol is.Comma) (if z then us else u ∷ us))) e) ∙ g)
      (without_case done (name (codes "default") ∷ us) refl (subst (λ z. AreMeant (done ++ name (codes "case") ∷ z ∷ us)) (turned i) a))

  by : (z : Bool) → same_token (name (codes "default")) t ≡ z → (w : Bool) → (same_token (name (codes "case")) t && comes_first (name (codes "default")) ts) ≡ w
      → option_and_then (left ss) (if z then Some ts else if w then Some (behind_if_there (symbol is.Comma) (behind_if_there (name (codes "default")) ts)) else None) ≡ Some [] → AreMeant (done ++ name (codes "default") ∷ fewest ss)
  by true e w q g = last ts g (subst (λ z. AreMeant (done ++ z ∷ ts)) (turned (same_is (name (codes "default")) t e)) a)
  by false e false q g = absurd (no_some [] g)
  by false e true q g =
      let x : (same_token (name (codes "case")) t ≡ true) × (comes_first (name (codes "default")) ts ≡ true) = and_parts (same_token (name (codes "case")) t) (comes_first (name (codes "default")) ts) q in
      word ts x.1 g (subst (λ z. AreMeant (done ++ z ∷ ts)) (turned (same_is (name (codes "case")) t x.0)) a)

must_printed : (t : Token) (ss : List Slot) → Printed ss → Printed (must t ∷ ss)
must_printed t ss later done ts c h a = by (behind_token t ts) refl h where
  by : (o : Option (List Token)) → behind_token t ts ≡ o → option_and_then (left ss) o ≡ Some [] → AreMeant (done ++ t ∷ fewest ss)
  by None e g = absurd (no_some [] g)
  by (Some vs) e g = one_more t ss done vs later (and_parts (not (touches t) || is_hard_before true ss) (is_clear_before true ss) c).1 g (subst (λ z. AreMeant (done ++ z)) (stands t ts vs e) a)

printed : (ss : List Slot) → Printed ss
printed [] done ts c h a = subst (λ z. AreMeant (done ++ z)) (of_some ts [] h) a
printed (must t ∷ ss) done ts c h a = must_printed t ss (printed ss) done ts c h a
printed (may t ∷ ss) done ts c h a = may_printed t ss (printed ss) done ts c h a
printed (alone ∷ ss) done ts c h a = alone_printed ss (printed ss) done ts c h a

-- those that must stand are meant where tokens are that fill the slots
pub fewest_meant : (ss : List Slot) (ts : List Token) → is_clear_before true ss ≡ true → left ss ts ≡ Some [] → AreMeant ts → AreMeant (fewest ss)
fewest_meant ss ts c h a = printed ss [] ts c h a
