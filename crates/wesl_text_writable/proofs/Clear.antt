-- Slots in which each token that may stand is followed by one that must stand and is another: then those that must stand fill them.
use Rattle.std.proofs.Common.{◌≡◌, ◌⊎◌, Bool, true, false, not, ◌&&◌, ◌||◌, if◌then◌else◌, List, [], ◌∷◌, ◌++◌, Some, None, option_map, option_and_then, refl, sym as turned, inl, inr, ap, ◌∙◌, codes}
use Rattle.std.proofs.lemmas.Slice.Eq.{bytes_eq-Decides}
use denote.Enum.Bare.{true_same}
use Rattle.wesl_text_tokens.specs.contracts.symbol.Symbol as symbols
use Rattle.wesl_text_tokens.specs.declared.symbol.Symbol.{Symbol}
use Rattle.wesl_text_tokens.specs.declared.symbol.Symbol.TheVariants as is
use Rattle.wesl_text_tokens.specs.Tokens.{Token, name, number, symbol, open_list, close_list}
use Rattle.wesl_text_form.specs.Slots.{Slot, must, may, alone, same_token, behind_if_there, left, fewest}
use Rattle.wesl_text_form.specs.Spelling.{Slots, followed, trailing}
use Rattle.wesl_text_reading.proofs.Filled.{no_true, same_is}
use Rattle.wesl_text_writable.proofs.Braced.{is_comma, is_braced, braced_joined}
use Rattle.wesl_text_writable.proofs.KnownApart.{touches}
use Rattle.std.proofs.lemmas.Bool.{and_parts}

-- the tokens that need not stand everywhere: comma and colon
abbrev pub is_left_out : Token → Bool
is_left_out (symbol is.Comma) = true
is_left_out (symbol is.Colon) = true
is_left_out t = false

-- these, and those that begin with a sign on which what comes before may depend
abbrev pub is_soft_sign : Symbol → Bool
is_soft_sign is.Comma = true
is_soft_sign is.Colon = true
is_soft_sign is.Less = true
is_soft_sign is.LessEqual = true
is_soft_sign is.ShiftLeft = true
is_soft_sign is.ShiftLeftEqual = true
is_soft_sign is.Equal = true
is_soft_sign is.EqualEqual = true
is_soft_sign s = false

abbrev pub is_soft : Token → Bool
is_soft (symbol s) = is_soft_sign s
is_soft open_list = true
is_soft t = false

left_out_soft : (t : Token) → is_left_out t ≡ true → is_soft t ≡ true
left_out_soft (symbol is.Comma) h = refl
left_out_soft (symbol is.Colon) h = refl
left_out_soft t h = absurd (no_true h)

-- whether the first token that must stand is none of these, where it is told whether that holds of what comes behind
abbrev pub is_hard_before : Bool → List Slot → Bool
is_hard_before b [] = b
is_hard_before b (must t ∷ ss) = not (is_soft t)
is_hard_before b (may t ∷ ss) = is_hard_before b ss
is_hard_before b (alone ∷ ss) = true

-- whether such a token comes behind each one that may stand, which is a comma or a colon, and behind each one that depends on what
-- comes behind
abbrev pub is_clear_before : Bool → List Slot → Bool
is_clear_before b [] = true
is_clear_before b (must t ∷ ss) = (not (touches t) || is_hard_before b ss) && is_clear_before b ss
is_clear_before b (may t ∷ ss) = is_left_out t && ((is_comma t || is_braced 0 ss) && (is_hard_before b ss && is_clear_before b ss))
is_clear_before b (alone ∷ ss) = is_hard_before b ss && is_clear_before b ss

-- ---- what is so before all is so before other tokens

-- one of two, where the second leads to another
or_then : (a b d : Bool) → (a || b) ≡ true → (b ≡ true → d ≡ true) → (a || d) ≡ true
or_then true b d h f = refl
or_then false b d h f = f h

hard_any : (ss : List Slot) (b : Bool) → is_hard_before false ss ≡ true → is_hard_before b ss ≡ true
hard_any [] b h = absurd (no_true h)
hard_any (must t ∷ ss) b h = h
hard_any (may t ∷ ss) b h = hard_any ss b h
hard_any (alone ∷ ss) b h = refl

clear_before_any : (ss : List Slot) (b : Bool) → is_clear_before false ss ≡ true → is_clear_before b ss ≡ true
clear_before_any [] b h = refl
clear_before_any (must t ∷ ss) b h =
    let x : ((not (touches t) || is_hard_before false ss) ≡ true) × (is_clear_before false ss ≡ true) = and_parts (not (touches t) || is_hard_before false ss) (is_clear_before false ss) h in
    ap (λ z. z && is_clear_before b ss) (or_then (not (touches t)) (is_hard_before false ss) (is_hard_before b ss) x.0 (hard_any ss b)) ∙ clear_before_any ss b x.1
clear_before_any (may t ∷ ss) b h =
    let x : (is_left_out t ≡ true) × (((is_comma t || is_braced 0 ss) && (is_hard_before false ss && is_clear_before false ss)) ≡ true) = and_parts (is_left_out t) ((is_comma t || is_braced 0 ss) && (is_hard_before false ss && is_clear_before false ss)) h in
    let w : ((is_comma t || is_braced 0 ss) ≡ true) × ((is_hard_before false ss && is_clear_before false ss) ≡ true) = and_parts (is_comma t || is_braced 0 ss) (is_hard_before false ss && is_clear_before false ss) x.1 in
    let y : (is_hard_before false ss ≡ true) × (is_clear_before false ss ≡ true) = and_parts (is_hard_before false ss) (is_clear_before false ss) w.1 in
    ap (λ z. z && ((is_comma t || is_braced 0 ss) && (is_hard_before b ss && is_clear_before b ss))) x.0
    ∙ (ap (λ z. z && (is_hard_before b ss && is_clear_before b ss)) w.0 ∙ (ap (λ z. z && is_clear_before b ss) (hard_any ss b y.0) ∙ clear_before_any ss b y.1))
clear_before_any (alone ∷ ss) b h =
    let x : (is_hard_before false ss ≡ true) × (is_clear_before false ss ≡ true) = and_parts (is_hard_before false ss) (is_clear_before false ss) h in
    ap (λ z. z && is_clear_before b ss) (hard_any ss b x.0) ∙ clear_before_any ss b x.1

-- ---- one after the other

pub hard_joined : (ss us : List Slot) (b : Bool) → is_hard_before b (ss ++ us) ≡ is_hard_before (is_hard_before b us) ss
hard_joined [] us b = refl
hard_joined (must t ∷ ss) us b = refl
hard_joined (may t ∷ ss) us b = hard_joined ss us b
hard_joined (alone ∷ ss) us b = refl

pub clear_joined : (ss us : List Slot) (b : Bool) → is_clear_before (is_hard_before b us) ss ≡ true → is_clear_before b us ≡ true → is_clear_before b (ss ++ us) ≡ true
clear_joined [] us b h g = g
clear_joined (must t ∷ ss) us b h g =
    let x : ((not (touches t) || is_hard_before (is_hard_before b us) ss) ≡ true) × (is_clear_before (is_hard_before b us) ss ≡ true) = and_parts (not (touches t) || is_hard_before (is_hard_before b us) ss) (is_clear_before (is_hard_before b us) ss) h in
    ap (λ z. z && is_clear_before b (ss ++ us)) (ap (λ z. not (touches t) || z) (hard_joined ss us b) ∙ x.0) ∙ clear_joined ss us b x.1 g
clear_joined (may t ∷ ss) us b h g =
    let d : Bool = is_hard_before b us in
    let x : (is_left_out t ≡ true) × (((is_comma t || is_braced 0 ss) && (is_hard_before d ss && is_clear_before d ss)) ≡ true) = and_parts (is_left_out t) ((is_comma t || is_braced 0 ss) && (is_hard_before d ss && is_clear_before d ss)) h in
    let w : ((is_comma t || is_braced 0 ss) ≡ true) × ((is_hard_before d ss && is_clear_before d ss) ≡ true) = and_parts (is_comma t || is_braced 0 ss) (is_hard_before d ss && is_clear_before d ss) x.1 in
    let y : (is_hard_before d ss ≡ true) × (is_clear_before d ss ≡ true) = and_parts (is_hard_before d ss) (is_clear_before d ss) w.1 in
    ap (λ z. z && ((is_comma t || is_braced 0 (ss ++ us)) && (is_hard_before b (ss ++ us) && is_clear_before b (ss ++ us)))) x.0
    ∙ (ap (λ z. z && (is_hard_before b (ss ++ us) && is_clear_before b (ss ++ us))) (or_then (is_comma t) (is_braced 0 ss) (is_braced 0 (ss ++ us)) w.0 (braced_joined ss us 0))
    ∙ (ap (λ z. z && is_clear_before b (ss ++ us)) (hard_joined ss us b ∙ y.0) ∙ clear_joined ss us b y.1 g))
clear_joined (alone ∷ ss) us b h g =
    let x : (is_hard_before (is_hard_before b us) ss ≡ true) × (is_clear_before (is_hard_before b us) ss ≡ true) = and_parts (is_hard_before (is_hard_before b us) ss) (is_clear_before (is_hard_before b us) ss) h in
    ap (λ z. z && is_clear_before b (ss ++ us)) (hard_joined ss us b ∙ x.0) ∙ clear_joined ss us b x.1 g

-- ---- slots that may be there

abbrev pub are_hard : Bool → Slots → Bool
are_hard b None = true
are_hard b (Some ss) = is_hard_before b ss

abbrev pub are_clear : Bool → Slots → Bool
are_clear b None = true
are_clear b (Some ss) = is_clear_before b ss

pub hard_followed : (a c : Slots) (b : Bool) → are_hard (are_hard b c) a ≡ true → are_hard b (followed a c) ≡ true
hard_followed None c b h = refl
hard_followed (Some ss) None b h = refl
hard_followed (Some ss) (Some us) b h = hard_joined ss us b ∙ h

pub clear_followed : (a c : Slots) (b : Bool) → are_clear (are_hard b c) a ≡ true → are_clear b c ≡ true → are_clear b (followed a c) ≡ true
clear_followed None c b h g = refl
clear_followed (Some ss) None b h g = refl
clear_followed (Some ss) (Some us) b h g = clear_joined ss us b h g

pub hard_slots_any : (a : Slots) (b : Bool) → are_hard false a ≡ true → are_hard b a ≡ true
hard_slots_any None b h = refl
hard_slots_any (Some ss) b h = hard_any ss b h

pub clear_any : (a : Slots) (b : Bool) → are_clear false a ≡ true → are_clear b a ≡ true
clear_any None b h = refl
clear_any (Some ss) b h = clear_before_any ss b h

-- whether a body comes first
abbrev pub braced : Slots → Bool
braced None = true
braced (Some ss) = is_braced 0 ss

-- a token that may stand, before what begins with another
pub clear_may : (s : Symbol) (c : Slots) (b : Bool) → is_left_out (symbol s) ≡ true → (is_comma (symbol s) || braced c) ≡ true → are_hard b c ≡ true → are_clear b c ≡ true → are_clear b (followed (Some (may (symbol s) ∷ [])) c) ≡ true
clear_may s None b e q h g = refl
clear_may s (Some us) b e q h g =
    ap (λ z. z && ((is_comma (symbol s) || is_braced 0 us) && (is_hard_before b us && is_clear_before b us))) e
    ∙ (ap (λ z. z && (is_hard_before b us && is_clear_before b us)) q ∙ (ap (λ z. z && is_clear_before b us) h ∙ g))

-- a token that must stand, before what begins with another where it depends on that
pub clear_must : (t : Token) (c : Slots) (b : Bool) → (are_hard b c ≡ true) ⊎ (touches t ≡ false) → are_clear b c ≡ true → are_clear b (followed (Some (must t ∷ [])) c) ≡ true
clear_must t c b e g = clear_followed (Some (must t ∷ [])) c b (ap (λ z. z && true) (by (touches t) refl e)) g where
  by : (z : Bool) → touches t ≡ z → (are_hard b c ≡ true) ⊎ (touches t ≡ false) → (not (touches t) || are_hard b c) ≡ true
  by false q x = ap (λ z. not z || are_hard b c) q
  by true q (inl x) = ap (λ z. not z || are_hard b c) q ∙ x
  by true q (inr x) = absurd (no_true (turned x ∙ q))

-- a comma that may stand behind them, before what begins with another token
pub trailing_clear : (a : Slots) → are_clear false a ≡ true → are_clear true (option_map trailing a) ≡ true
trailing_clear None h = refl
trailing_clear (Some []) h = refl
trailing_clear (Some (s ∷ ss)) h = clear_joined (s ∷ ss) (may (symbol is.Comma) ∷ []) true (clear_before_any (s ∷ ss) true h) refl

pub trailing_hard : (a : Slots) (b : Bool) → are_hard b a ≡ true → are_hard b (option_map trailing a) ≡ true
trailing_hard None b h = refl
trailing_hard (Some []) b h = h
trailing_hard (Some (s ∷ ss)) b h = hard_joined (s ∷ ss) (may (symbol is.Comma) ∷ []) b ∙ h

-- ---- what is clear is filled by what must stand

-- what is no such symbol, is another
other_token : (t u : Token) → is_soft t ≡ true → not (is_soft u) ≡ true → same_token t u ≡ false
other_token t u h g = by (same_token t u) refl where
  by : (b : Bool) → same_token t u ≡ b → b ≡ false
  by false e = refl
  by true e = absurd (no_true (turned (ap not (ap is_soft (turned (same_is t u e)) ∙ h)) ∙ g))

first_other : (t : Token) (ss : List Slot) → is_soft t ≡ true → is_hard_before true ss ≡ true → behind_if_there t (fewest ss) ≡ fewest ss
first_other t [] h g = refl
first_other t (must u ∷ ss) h g = ap (λ b. if b then fewest ss else u ∷ fewest ss) (other_token t u h g)
first_other t (may u ∷ ss) h g = first_other t ss h g
first_other t (alone ∷ ss) h g = ap (λ b. if b then fewest ss else name (codes "default") ∷ fewest ss) (other_token t (name (codes "default")) h refl)

pub same_self : (t : Token) → same_token t t ≡ true
same_self (name a) = (bytes_eq-Decides a a).1 refl
same_self (number a) = (bytes_eq-Decides a a).1 refl
same_self (symbol s) = true_same symbols.the_type s s refl
same_self open_list = refl
same_self close_list = refl

pub clear_filled : (ss : List Slot) → is_clear_before true ss ≡ true → left ss (fewest ss) ≡ Some []
clear_filled [] h = refl
clear_filled (must t ∷ ss) h =
    ap (λ b. option_and_then (left ss) (if b then Some (fewest ss) else None)) (same_self t) ∙ clear_filled ss (and_parts (not (touches t) || is_hard_before true ss) (is_clear_before true ss) h).1
clear_filled (may t ∷ ss) h =
    let x : (is_left_out t ≡ true) × (((is_comma t || is_braced 0 ss) && (is_hard_before true ss && is_clear_before true ss)) ≡ true) = and_parts (is_left_out t) ((is_comma t || is_braced 0 ss) && (is_hard_before true ss && is_clear_before true ss)) h in
    let y : (is_hard_before true ss ≡ true) × (is_clear_before true ss ≡ true) = and_parts (is_hard_before true ss) (is_clear_before true ss) (and_parts (is_comma t || is_braced 0 ss) (is_hard_before true ss && is_clear_before true ss) x.1).1 in
    ap (left ss) (first_other t ss (left_out_soft t x.0) y.0) ∙ clear_filled ss y.1
clear_filled (alone ∷ ss) h = clear_filled ss (and_parts (is_hard_before true ss) (is_clear_before true ss) h).1
