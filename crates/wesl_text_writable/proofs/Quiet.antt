-- Tokens that fill clear slots are quiet: none depends on the one behind it.
use Rattle.std.proofs.Common.{◌≡◌, Bool, true, false, not, ◌&&◌, ◌||◌, if◌then◌else◌, List, [], ◌∷◌, Option, Some, None, option_and_then, refl, sym as turned, ap, ◌∙◌, subst, codes}
use Rattle.wesl_text_tokens.specs.declared.symbol.Symbol.TheVariants as is
use Rattle.wesl_text_tokens.specs.Tokens.{Token, name, number, symbol, open_list, close_list}
use Rattle.wesl_text_tokens.proofs.SymbolTexts.{each}
use Rattle.wesl_text_form.specs.Slots.{Slot, must, may, alone, same_token, behind_token, behind_if_there, comes_first, left}
use Rattle.wesl_text_reading.proofs.Filled.{no_some, of_some, no_true, same_is, stands}
use Rattle.wesl_text_writable.proofs.Braced.{is_comma, is_braced}
use Rattle.wesl_text_writable.proofs.KnownApart.{touches, marks, are_quiet}
use Rattle.wesl_text_writable.proofs.Clear.{is_left_out, is_soft_sign, is_soft, is_hard_before, is_clear_before}
use mathlib.Core.Bool.{and-false}
use Rattle.std.proofs.lemmas.Bool.{and_parts}

-- a token that is hard has no sign first on which another may depend
pub hard_unmarked : (t : Token) → not (is_soft t) ≡ true → marks t ≡ false
hard_unmarked (name t) h = refl
hard_unmarked (number t) h = refl
hard_unmarked (symbol s) h = by (is_soft_sign s) (marks (symbol s)) h (each (λ z. is_soft_sign z || not (marks (symbol z))) refl s) where
  by : (a b : Bool) → not a ≡ true → (a || not b) ≡ true → b ≡ false
  by true b h g = absurd (no_true h)
  by false true h g = absurd (no_true g)
  by false false h g = refl
hard_unmarked open_list h = absurd (no_true h)
hard_unmarked close_list h = refl

-- a comma and a colon have none, and depend on nothing
left_out_unmarked : (t : Token) → is_left_out t ≡ true → (marks t ≡ false) × (touches t ≡ false)
left_out_unmarked (symbol is.Comma) h = (refl, refl)
left_out_unmarked (symbol is.Colon) h = (refl, refl)
left_out_unmarked t h = absurd (no_true h)

-- whether the first of tokens has such a sign
abbrev pub mark_first : List Token → Bool
mark_first [] = false
mark_first (t ∷ ts) = marks t

quiet_more : (t : Token) (ts : List Token) → (touches t && mark_first ts) ≡ false → are_quiet ts ≡ true → are_quiet (t ∷ ts) ≡ true
quiet_more t [] h q = refl
quiet_more t (u ∷ ts) h q = ap (λ z. not z && are_quiet (u ∷ ts)) h ∙ q

-- tokens are quiet, and where the slots are hard the first has no such sign
abbrev pub Is : List Slot → List Token → Type 0
Is ss ts = (are_quiet ts ≡ true) × (is_hard_before true ss ≡ true → mark_first ts ≡ false)

abbrev pub Filled : List Slot → Type 0
Filled ss = (ts : List Token) → is_clear_before true ss ≡ true → left ss ts ≡ Some [] → Is ss ts

must_is : (t : Token) (ss : List Slot) → Filled ss → Filled (must t ∷ ss)
must_is t ss later ts c h = by (behind_token t ts) refl h where
  x : ((not (touches t) || is_hard_before true ss) ≡ true) × (is_clear_before true ss ≡ true)
  x = and_parts (not (touches t) || is_hard_before true ss) (is_clear_before true ss) c

  here : (vs : List Token) → Is ss vs → Is (must t ∷ ss) (t ∷ vs)
  here vs i = (quiet_more t vs (apart (touches t) refl x.0) i.0, λ g. hard_unmarked t g) where
    apart : (z : Bool) → touches t ≡ z → (not (touches t) || is_hard_before true ss) ≡ true → (touches t && mark_first vs) ≡ false
    apart false e g = ap (λ z. z && mark_first vs) e
    apart true e g = ap (λ z. touches t && z) (i.1 (turned (ap (λ z. not z || is_hard_before true ss) e) ∙ g)) ∙ and-false (touches t)

  by : (o : Option (List Token)) → behind_token t ts ≡ o → option_and_then (left ss) o ≡ Some [] → Is (must t ∷ ss) ts
  by None e g = absurd (no_some [] g)
  by (Some vs) e g = subst (Is (must t ∷ ss)) (turned (stands t ts vs e)) (here vs (later vs x.1 g))

may_is : (t : Token) (ss : List Slot) → Filled ss → Filled (may t ∷ ss)
may_is t ss later ts c h = by ts h where
  x : (is_left_out t ≡ true) × (((is_comma t || is_braced 0 ss) && (is_hard_before true ss && is_clear_before true ss)) ≡ true)
  x = and_parts (is_left_out t) ((is_comma t || is_braced 0 ss) && (is_hard_before true ss && is_clear_before true ss)) c

  y : (is_hard_before true ss ≡ true) × (is_clear_before true ss ≡ true)
  y = and_parts (is_hard_before true ss) (is_clear_before true ss) (and_parts (is_comma t || is_braced 0 ss) (is_hard_before true ss && is_clear_before true ss) x.1).1

  by : (ts : List Token) → left ss (behind_if_there t ts) ≡ Some [] → Is (may t ∷ ss) ts
  by [] g = later [] y.1 g
  by (u ∷ us) g = at (same_token t u) refl g where
    at : (z : Bool) → same_token t u ≡ z → left ss (if z then us else u ∷ us) ≡ Some [] → Is (may t ∷ ss) (u ∷ us)
    at false e g = later (u ∷ us) y.1 g
    at true e g =
        let m : (marks u ≡ false) × (touches u ≡ false) = left_out_unmarked u (turned (ap is_left_out (same_is t u e)) ∙ x.0) in
        (quiet_more u us (ap (λ z. z && mark_first us) m.1) (later us y.1 g).0, λ q. m.0)

-- `default`, `case default` and `case default,`
word_quiet : (u : Token) (us : List Token) → touches u ≡ false → are_quiet us ≡ true → are_quiet (u ∷ us) ≡ true
word_quiet u us e q = quiet_more u us (ap (λ z. z && mark_first us) e) q

there_quiet : (t : Token) (us : List Token) → touches t ≡ false → are_quiet (behind_if_there t us) ≡ true → are_quiet us ≡ true
there_quiet t [] e q = refl
there_quiet t (u ∷ us) e q = by (same_token t u) refl q where
  by : (z : Bool) → same_token t u ≡ z → are_quiet (if z then us else u ∷ us) ≡ true → are_quiet (u ∷ us) ≡ true
  by true h q = word_quiet u us (ap touches (turned (same_is t u h)) ∙ e) q
  by false h q = q

alone_is : (ss : List Slot) → Filled ss → Filled (alone ∷ ss)
alone_is ss later [] c h = absurd (no_some [] h)
alone_is ss later (t ∷ ts) c h = by (same_token (name (codes "default")) t) refl (same_token (name (codes "case")) t && comes_first (name (codes "default")) ts) refl h where
  clear : is_clear_before true ss ≡ true
  clear = (and_parts (is_hard_before true ss) (is_clear_before true ss) c).1

  word : (w : Token) → marks w ≡ false → w ≡ t → marks t ≡ false
  word w m e = ap marks (turned e) ∙ m

  by : (a : Bool) → same_token (name (codes "default")) t ≡ a → (b : Bool) → (same_token (name (codes "case")) t && comes_first (name (codes "default")) ts) ≡ b
      → option_and_then (left ss) (if a then Some ts else if b then Some (behind_if_there (symbol is.Comma) (behind_if_there (name (codes "default")) ts)) else None) ≡ Some [] → Is (alone ∷ ss) (t ∷ ts)
  by true e b q g =
      let i : name (codes "default") ≡ t = same_is (name (codes "default")) t e in
      (word_quiet t ts (ap touches (turned i)) (later ts clear g).0, λ z. word (name (codes "default")) refl i)
  by false e true q g =
      let i : name (codes "case") ≡ t = same_is (name (codes "case")) t (and_parts (same_token (name (codes "case")) t) (comes_first (name (codes "default")) ts) q).0 in
      let l : are_quiet (behind_if_there (symbol is.Comma) (behind_if_there (name (codes "default")) ts)) ≡ true = (later (behind_if_there (symbol is.Comma) (behind_if_there (name (codes "default")) ts)) clear g).0 in
      (word_quiet t ts (ap touches (turned i)) (there_quiet (name (codes "default")) ts refl (there_quiet (symbol is.Comma) (behind_if_there (name (codes "default")) ts) refl l)), λ z. word (name (codes "case")) refl i)
  by false e false q g = absurd (no_some [] g)

pub filled_is : (ss : List Slot) → Filled ss
filled_is [] ts c h = subst (Is []) (turned (of_some ts [] h)) (refl, λ g. refl)
filled_is (must t ∷ ss) ts c h = must_is t ss (filled_is ss) ts c h
filled_is (may t ∷ ss) ts c h = may_is t ss (filled_is ss) ts c h
filled_is (alone ∷ ss) ts c h = alone_is ss (filled_is ss) ts c h

-- tokens that fill clear slots
pub filled_quiet : (ss : List Slot) (ts : List Token) → is_clear_before true ss ≡ true → left ss ts ≡ Some [] → are_quiet ts ≡ true
filled_quiet ss ts c h = (filled_is ss ts c h).0
