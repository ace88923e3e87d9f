-- Slots in the place of others, behind tokens of which it may be told that nothing is pending behind them.
use Rattle.std.proofs.Common.{◌≡◌, ◌⊎◌, Bool, true, false, if◌then◌else◌, List, [], ◌∷◌, ◌++◌, Some, None, option_map, is_some, refl, sym as turned, inl, inr, ap, ◌∙◌, subst, append_assoc, append-nil}
use Rattle.wesl_text_tokens.specs.declared.symbol.Symbol.TheVariants as is
use Rattle.wesl_text_tokens.specs.Tokens.{Token, symbol}
use Rattle.wesl_text_form.specs.Slots.{Slot, may, fewest}
use Rattle.wesl_text_form.specs.Spelling.{Slots, followed, trailing}
use Rattle.wesl_text_reading.proofs.Filled.{no_true}
use Rattle.wesl_text_writable.proofs.Quiet.{mark_first}
use Rattle.wesl_text_writable.proofs.Clear.{are_hard}
use Rattle.wesl_text_writable.proofs.MadeApart.{AreMeant}
use Rattle.wesl_text_respell.proofs.Rests.{rests}
use Rattle.wesl_text_respell.proofs.Joined.{Settled, begin, settles, replaced}
use Rattle.wesl_text_respell.proofs.Lists.{rest_fewest, Comes}
use Rattle.wesl_text_respell.proofs.Units.{fewest_joined}
use Rattle.wesl_text_respell.proofs.Writable.{are_writable, meant_of_writable, writable_of_meant}
use Rattle.wesl_text_left.proofs.Following.{hard_first, hard_alone, Follows}

-- ---- what is told before and behind slots

-- the second are meant where the first are, behind tokens that are settled where that is asked, before what changes nothing of them
abbrev pub FollowAt : Bool → List Slot → List Slot → Type 0
FollowAt b ss us = (ts vs : List Token) → mark_first vs ≡ false → (b ≡ true → Settled ts) → AreMeant (ts ++ (fewest ss ++ vs)) → AreMeant (ts ++ (fewest us ++ vs))

-- where the first are there, so are the second
abbrev pub FollowsAt : Bool → Slots → Slots → Type 0
FollowsAt b None c = Unit {0}
FollowsAt b (Some ss) None = ⊥
FollowsAt b (Some ss) (Some us) = FollowAt b ss us

-- tokens are settled behind slots where that is asked behind them, if they are before where it is asked before
abbrev pub Bring : Bool → Bool → List Slot → Type 0
Bring b e ss = (ts vs : List Token) → AreMeant (ts ++ (fewest ss ++ vs)) → (b ≡ true → Settled ts) → e ≡ true → Settled (ts ++ fewest ss)

abbrev pub Brings : Bool → Bool → Slots → Type 0
Brings b e None = Unit {0}
Brings b e (Some ss) = Bring b e ss

-- slots change nothing of what comes before them, before what does not
abbrev pub Calm : Slots → Type 0
Calm None = Unit {0}
Calm (Some ss) = (vs : List Token) → mark_first vs ≡ false → mark_first (fewest ss ++ vs) ≡ false

-- the first slots are not there, or are the second
abbrev pub Same : Slots → Slots → Type 0
Same a c = (a ≡ None) ⊎ (a ≡ c)

pub brings_nothing : (b : Bool) (a : Slots) → Brings b false a
brings_nothing b None = tt
brings_nothing b (Some ss) = λ ts vs m p e. absurd (no_true e)

pub brings_comes : (b : Bool) (a : Slots) → Comes (begin b) a rests → Brings b true a
brings_comes b None h = tt
brings_comes b (Some ss) h = λ ts vs m p e. settles b ts (fewest ss) vs (rest_fewest ss (begin b) ∙ h) p m

pub calm_hard : (a : Slots) → are_hard true a ≡ true → Calm a
calm_hard None h = tt
calm_hard (Some ss) h = λ vs m. hard_first ss vs true h (λ e. m)

-- ---- slots in the place of others

pub at_self : (b : Bool) (a : Slots) → FollowsAt b a a
at_self b None = tt
at_self b (Some ss) = λ ts vs m p a. a

pub at_same : (b : Bool) (a c : Slots) → Same a c → FollowsAt b a c
at_same b a c (inl e) = subst (λ z. FollowsAt b z c) (turned e) tt
at_same b a c (inr e) = subst (λ z. FollowsAt b a z) e (at_self b a)

pub at_weaker : (b : Bool) (a c : Slots) → FollowsAt false a c → FollowsAt b a c
at_weaker b None c f = tt
at_weaker b (Some ss) None f = absurd f
at_weaker b (Some ss) (Some us) f = λ ts vs m p a. f ts vs m (λ e. absurd (no_true e)) a

-- where less is asked than what is told
pub at_asked : (b e : Bool) (a c : Slots) → (b ≡ true → e ≡ true) → FollowsAt b a c → FollowsAt e a c
at_asked true e a c h f = subst (λ z. FollowsAt z a c) (turned (h refl)) f
at_asked false e a c h f = at_weaker e a c f

pub at_then : (b : Bool) (a c d : Slots) → FollowsAt b a c → FollowsAt b c d → FollowsAt b a d
at_then b None c d f g = tt
at_then b (Some ss) None d f g = absurd f
at_then b (Some ss) (Some us) None f g = absurd g
at_then b (Some ss) (Some us) (Some xs) f g = λ ts vs m p a. g ts vs m p (f ts vs m p a)

pub at_follows : (a c : Slots) → Follows a c → FollowsAt true a c
at_follows None c f = tt
at_follows (Some ss) None f = absurd f
at_follows (Some ss) (Some us) f = λ ts vs m p a. f ts vs m (p refl) a

pub at_writable : (a c : Slots) → FollowsAt true a c → are_writable a ≡ true → are_writable c ≡ true
at_writable None c f h = absurd (no_true h)
at_writable (Some ss) None f h = absurd f
at_writable (Some ss) (Some us) f h =
    writable_of_meant us (subst AreMeant (append-nil (fewest us)) (f [] [] refl (λ e. refl) (subst AreMeant (turned (append-nil (fewest ss))) (meant_of_writable ss h))))

parted : (xs : List Token) (ss ts : List Slot) (zs : List Token) → xs ++ (fewest (ss ++ ts) ++ zs) ≡ xs ++ (fewest ss ++ (fewest ts ++ zs))
parted xs ss ts zs = ap (λ z. xs ++ (z ++ zs)) (fewest_joined ss ts) ∙ ap (λ z. xs ++ z) (append_assoc (fewest ss) (fewest ts) zs)

-- the same slots before others
pub at_behind : (b e : Bool) (a c d : Slots) → Brings b e a → FollowsAt e c d → FollowsAt b (followed a c) (followed a d)
at_behind b e None c d k f = tt
at_behind b e (Some ss) None d k f = tt
at_behind b e (Some ss) (Some us) None k f = absurd f
at_behind b e (Some ss) (Some us) (Some ws) k f = λ xs zs m p a.
    let x : AreMeant (xs ++ (fewest ss ++ (fewest us ++ zs))) = subst AreMeant (parted xs ss us zs) a in
    let y : AreMeant ((xs ++ fewest ss) ++ (fewest ws ++ zs)) = f (xs ++ fewest ss) zs m (k xs (fewest us ++ zs) x p) (subst AreMeant (turned (append_assoc xs (fewest ss) (fewest us ++ zs))) x) in
    subst AreMeant (append_assoc xs (fewest ss) (fewest ws ++ zs) ∙ turned (parted xs ss ws zs)) y

-- others before the same slots
pub at_before : (b : Bool) (a x c : Slots) → Calm c → FollowsAt b a x → FollowsAt b (followed a c) (followed x c)
at_before b None x c h f = tt
at_before b (Some ss) None c h f = absurd f
at_before b (Some ss) (Some us) None h f = tt
at_before b (Some ss) (Some us) (Some ts) h f = λ xs zs m p a.
    subst AreMeant (turned (parted xs us ts zs)) (f xs (fewest ts ++ zs) (h zs m) p (subst AreMeant (parted xs ss ts zs) a))

pub at_both : (b e : Bool) (a x c d : Slots) → Calm c → FollowsAt b a x → Brings b e x → FollowsAt e c d → FollowsAt b (followed a c) (followed x d)
at_both b e a x c d h f k g = at_then b (followed a c) (followed x c) (followed x d) (at_before b a x c h f) (at_behind b e x c d k g)

pub at_kept : (b e : Bool) (a x c d : Slots) → Same a x → Brings b e a → FollowsAt e c d → FollowsAt b (followed a c) (followed x d)
at_kept b e a x c d (inl q) k g = subst (λ z. FollowsAt b (followed z c) (followed x d)) (turned q) tt
at_kept b e a x c d (inr q) k g = subst (λ z. FollowsAt b (followed a c) (followed z d)) q (at_behind b e a c d k g)

-- ---- slots that go

-- the first token changes nothing of what comes before
abbrev pub Starts : Slots → Type 0
Starts None = Unit {0}
Starts (Some ss) = mark_first (fewest ss) ≡ false

pub starts_hard : (a : Slots) → are_hard false a ≡ true → Starts a
starts_hard None h = tt
starts_hard (Some ss) h = hard_alone ss h

pub at_gone : (a c d : Slots) → Starts a → Calm c → Brings true true a → FollowsAt true c d → FollowsAt true (followed a c) d
at_gone None c d h l k f = tt
at_gone (Some ss) None d h l k f = tt
at_gone (Some ss) (Some ts) None h l k f = absurd f
at_gone (Some ss) (Some ts) (Some vs) h l k f = λ xs zs m p a.
    let x : AreMeant (xs ++ (fewest ss ++ (fewest ts ++ zs))) = subst AreMeant (parted xs ss ts zs) a in
    f xs zs m p (replaced xs (fewest ss) [] (fewest ts ++ zs) (p refl) (k xs (fewest ts ++ zs) x p refl) (λ e. subst Settled (turned (append-nil xs)) (p refl)) h refl (l zs m) tt x)

-- ---- nothing behind

pub last_is : (a : Slots) → followed a (Some []) ≡ a
last_is None = refl
last_is (Some ss) = ap (λ z. Some z) (append-nil ss)

-- a comma that may stand behind
pub trailing_fewest : (ss : List Slot) → fewest (trailing ss) ≡ fewest ss
trailing_fewest [] = refl
trailing_fewest (s ∷ ss) = fewest_joined (s ∷ ss) (may (symbol is.Comma) ∷ []) ∙ append-nil (fewest (s ∷ ss))

pub at_trailing : (b : Bool) (a c : Slots) → FollowsAt b a c → FollowsAt b (option_map trailing a) (option_map trailing c)
at_trailing b None c f = tt
at_trailing b (Some ss) None f = absurd f
at_trailing b (Some ss) (Some us) f = λ ts vs m p a.
    subst (λ z. AreMeant (ts ++ (z ++ vs))) (turned (trailing_fewest us)) (f ts vs m p (subst (λ z. AreMeant (ts ++ (z ++ vs))) (trailing_fewest ss) a))

pub same_trailing : (a c : Slots) → Same a c → Same (option_map trailing a) (option_map trailing c)
same_trailing a c (inl e) = inl (ap (λ z. option_map trailing z) e)
same_trailing a c (inr e) = inr (ap (λ z. option_map trailing z) e)

-- ---- slots where a test holds

pub at_where : (f : Bool) (b e : Bool) (x y : Slots) → (b ≡ true → is_some x ≡ true → (e ≡ true) × FollowsAt f x y) → FollowsAt f (if b then x else None) (if e then y else None)
at_where f false e x y h = tt
at_where f true e None y h = tt
at_where f true e (Some ss) y h = let z : (e ≡ true) × FollowsAt f (Some ss) y = h refl refl in subst (λ w. FollowsAt f (Some ss) (if w then y else None)) (turned z.0) z.1

-- one of two, by a test of which the other is equal
pub at_either : (f b e : Bool) (x y v w : Slots) → e ≡ b → (b ≡ true → FollowsAt f x v) → (b ≡ false → FollowsAt f y w) → FollowsAt f (if b then x else y) (if e then v else w)
at_either f true e x y v w q g h = subst (λ z. FollowsAt f x (if z then v else w)) (turned q) (g refl)
at_either f false e x y v w q g h = subst (λ z. FollowsAt f y (if z then v else w)) (turned q) (h refl)
