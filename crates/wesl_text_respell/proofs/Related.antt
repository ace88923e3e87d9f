-- Slots that are those of others, with other names and without the steps of some paths.
use Rattle.std.proofs.Common.{◌≡◌, Bool, true, false, List, [], ◌∷◌, ◌++◌, Some, None, option_map, if◌then◌else◌, refl, sym as turned, subst}
use Rattle.wesl_tree_names.specs.Path.{Text}
use Rattle.wesl_text_tokens.specs.declared.symbol.Symbol.TheVariants as is
use Rattle.wesl_text_tokens.specs.Tokens.{name, symbol}
use Rattle.wesl_text_form.specs.Slots.{Slot, must, may}
use Rattle.wesl_text_form.specs.Spelling.{Slots, followed, signed, stepped, trailing, without_last}
use Rattle.wesl_text_reading.proofs.Filled.{no_true}
use Rattle.wesl_text_respell.proofs.Ended.{closed_by, ended, are_ended}

-- the second slots are the first, where a name may be another, and steps of a path before a name may be gone
pub data IsLike : List Slot → List Slot → Type 0 where
  none : IsLike [] []
  as_is : {ss us : List Slot} (s : Slot) → IsLike ss us → IsLike (s ∷ ss) (s ∷ us)
  other : {ss us : List Slot} (x y : Text) → IsLike ss us → IsLike (must (name x) ∷ ss) (must (name y) ∷ us)
  fewer : {ss us : List Slot} (w x : Text) → IsLike (must (name x) ∷ ss) us → IsLike (must (name w) ∷ must (symbol is.ColonColon) ∷ must (name x) ∷ ss) us

pub like_self : (ss : List Slot) → IsLike ss ss
like_self [] = none
like_self (s ∷ ss) = as_is s (like_self ss)

like_joined : {ss us ts vs : List Slot} → IsLike ss us → IsLike ts vs → IsLike (ss ++ ts) (us ++ vs)
like_joined none q = q
like_joined (as_is s r) q = as_is s (like_joined r q)
like_joined (other x y r) q = other x y (like_joined r q)
like_joined (fewer w x r) q = fewer w x (like_joined r q)

-- something stays
no_less : {s : Slot} {ss : List Slot} → IsLike (s ∷ ss) [] → ⊥
no_less (fewer w x r) = no_less r

like_trailing : {ss us : List Slot} → IsLike ss us → IsLike (trailing ss) (trailing us)
like_trailing none = none
like_trailing (as_is s r) = as_is s (like_joined r (like_self (may (symbol is.Comma) ∷ [])))
like_trailing (other x y r) = other x y (like_joined r (like_self (may (symbol is.Comma) ∷ [])))
like_trailing (fewer w x r) = fewer w x (like_trailing r)

-- steps before a name
pub like_stepped : (ws : List Text) (x : Text) {ss us : List Slot} → IsLike (must (name x) ∷ ss) us → IsLike (stepped ws ++ must (name x) ∷ ss) us
like_stepped [] x r = r
like_stepped (w ∷ []) x r = fewer w x r
like_stepped (w ∷ v ∷ ws) x r = fewer w v (like_stepped (v ∷ ws) x r)

-- without the last, where that is no name
pub like_cut : {ss us : List Slot} (b : Bool) → IsLike ss us → ended b ss ≡ true → IsLike (without_last ss) (without_last us)
like_cut b none h = none
like_cut b (as_is s none) h = none
like_cut b (as_is {ss = t ∷ ts} {us = v ∷ vs} (must s) r) h = as_is (must s) (like_cut (closed_by b s) r h)
like_cut b (as_is {ss = t ∷ ts} {us = v ∷ vs} (may s) r) h = as_is (may s) (like_cut b r h)
like_cut b (as_is {ss = t ∷ ts} {us = v ∷ vs} s r) h = as_is s (like_cut false r h)
like_cut b (as_is {ss = t ∷ ts} {us = []} s r) h = absurd (no_less r)
like_cut b (other x y none) h = absurd (no_true h)
like_cut b (other {ss = t ∷ ts} {us = v ∷ vs} x y r) h = other x y (like_cut false r h)
like_cut b (other {ss = t ∷ ts} {us = []} x y r) h = absurd (no_less r)
like_cut b (fewer {ss = []} w x r) h = absurd (no_true h)
like_cut b (fewer {ss = t ∷ ts} w x r) h = fewer w x (like_cut false r h)

-- ---- slots that may be there

-- where the first are there, the second are, and like them
abbrev pub Follows : Slots → Slots → Type 0
Follows None b = Unit {0}
Follows (Some ss) None = ⊥
Follows (Some ss) (Some us) = IsLike ss us

pub follows_self : (a : Slots) → Follows a a
follows_self None = tt
follows_self (Some ss) = like_self ss

pub follows_joined : (a b c d : Slots) → Follows a b → Follows c d → Follows (followed a c) (followed b d)
follows_joined None b c d p q = tt
follows_joined (Some ss) None c d p q = absurd p
follows_joined (Some ss) (Some us) None d p q = tt
follows_joined (Some ss) (Some us) (Some ts) None p q = absurd q
follows_joined (Some ss) (Some us) (Some ts) (Some vs) p q = like_joined p q

pub follows_trailing : (a b : Slots) → Follows a b → Follows (option_map trailing a) (option_map trailing b)
follows_trailing None b p = tt
follows_trailing (Some ss) None p = absurd p
follows_trailing (Some ss) (Some us) p = like_trailing p

pub follows_comma : (a b : Slots) → Follows a b → Follows (option_map (λ ss. signed is.Comma ∷ ss) a) (option_map (λ ss. signed is.Comma ∷ ss) b)
follows_comma None b p = tt
follows_comma (Some ss) None p = absurd p
follows_comma (Some ss) (Some us) p = as_is (signed is.Comma) p

pub follows_cut : (a b : Slots) → are_ended false a ≡ true → Follows a b → Follows (option_map without_last a) (option_map without_last b)
follows_cut None b e p = tt
follows_cut (Some ss) None e p = absurd p
follows_cut (Some ss) (Some us) e p = like_cut false p e

-- one of two, by a test of which the other is equal
pub follows_either : (b e : Bool) (x y v w : Slots) → e ≡ b → (b ≡ true → Follows x v) → (b ≡ false → Follows y w) → Follows (if b then x else y) (if e then v else w)
follows_either true e x y v w q f g = subst (λ z. Follows x (if z then v else w)) (turned q) (f refl)
follows_either false e x y v w q f g = subst (λ z. Follows y (if z then v else w)) (turned q) (g refl)
