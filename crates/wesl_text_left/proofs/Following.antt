-- Slots in the place of others: the tokens are meant as before, where nothing is pending before and behind what changes.
use Rattle.std.proofs.Common.{◌≡◌, Bool, true, false, List, [], ◌∷◌, ◌++◌, Some, None, refl, sym as turned, ap, ◌∙◌, subst, append_assoc, append-nil}
use Rattle.wesl_text_tokens.specs.Tokens.{Token}
use Rattle.wesl_text_form.specs.Slots.{Slot, must, may, alone, fewest}
use Rattle.wesl_text_form.specs.Spelling.{Slots, followed}
use Rattle.wesl_text_reading.proofs.Filled.{no_true}
use Rattle.wesl_text_writable.proofs.Quiet.{mark_first, hard_unmarked}
use Rattle.wesl_text_writable.proofs.Clear.{is_hard_before, are_hard}
use Rattle.wesl_text_writable.proofs.MadeApart.{AreMeant}
use Rattle.wesl_text_respell.proofs.Rests.{rests}
use Rattle.wesl_text_respell.proofs.Joined.{Settled, settles, replaced}
use Rattle.wesl_text_respell.proofs.Lists.{rest_fewest, Comes}
use Rattle.wesl_text_respell.proofs.Units.{fewest_joined}
use Rattle.wesl_text_left.proofs.Plain.{are_plain, plain_meant}

-- ---- nothing is pending behind slots, where nothing is before them

abbrev pub Keeps : List Slot → Type 0
Keeps ss = (ts vs : List Token) → AreMeant (ts ++ (fewest ss ++ vs)) → Settled ts → Settled (ts ++ fewest ss)

abbrev pub Keep : Slots → Type 0
Keep None = Unit {0}
Keep (Some ss) = Keeps ss

pub keep_comes : (a : Slots) → Comes rests a rests → Keep a
keep_comes None h = tt
keep_comes (Some ss) h = λ ts vs m p. settles true ts (fewest ss) vs (rest_fewest ss rests ∙ h) (λ e. p) m

-- ---- the first token

pub hard_first : (ss : List Slot) (vs : List Token) (u : Bool) → is_hard_before u ss ≡ true → (u ≡ true → mark_first vs ≡ false) → mark_first (fewest ss ++ vs) ≡ false
hard_first [] vs u h m = m h
hard_first (must t ∷ ss) vs u h m = hard_unmarked t h
hard_first (may t ∷ ss) vs u h m = hard_first ss vs u h m
hard_first (alone ∷ ss) vs u h m = refl

pub hard_alone : (ss : List Slot) → is_hard_before false ss ≡ true → mark_first (fewest ss) ≡ false
hard_alone ss h = turned (ap mark_first (append-nil (fewest ss))) ∙ hard_first ss [] false h (λ e. absurd (no_true e))

-- ---- slots in the place of others

-- behind tokens behind which nothing is pending, before others of which the first may not change what comes before
abbrev pub Follow : List Slot → List Slot → Type 0
Follow ss us = (ts vs : List Token) → mark_first vs ≡ false → Settled ts → AreMeant (ts ++ (fewest ss ++ vs)) → AreMeant (ts ++ (fewest us ++ vs))

-- where the first are there, so are the second
abbrev pub Follows : Slots → Slots → Type 0
Follows None c = Unit {0}
Follows (Some ss) None = ⊥
Follows (Some ss) (Some us) = Follow ss us

pub follows_self : (a : Slots) → Follows a a
follows_self None = tt
follows_self (Some ss) = λ ts vs m p a. a

apart : (xs : List Token) (ss ts : List Slot) (zs : List Token) → xs ++ (fewest (ss ++ ts) ++ zs) ≡ xs ++ (fewest ss ++ (fewest ts ++ zs))
apart xs ss ts zs = ap (λ z. xs ++ (z ++ zs)) (fewest_joined ss ts) ∙ ap (λ z. xs ++ z) (append_assoc (fewest ss) (fewest ts) zs)

-- the same slots before others
pub follows_behind : (a c d : Slots) → Keep a → Follows c d → Follows (followed a c) (followed a d)
follows_behind None c d k f = tt
follows_behind (Some ss) None d k f = tt
follows_behind (Some ss) (Some us) None k f = absurd f
follows_behind (Some ss) (Some us) (Some vs) k f = λ xs zs m p a.
    let x : AreMeant (xs ++ (fewest ss ++ (fewest us ++ zs))) = subst AreMeant (apart xs ss us zs) a in
    let y : AreMeant ((xs ++ fewest ss) ++ (fewest vs ++ zs)) = f (xs ++ fewest ss) zs m (k xs (fewest us ++ zs) x p) (subst AreMeant (turned (append_assoc xs (fewest ss) (fewest us ++ zs))) x) in
    subst AreMeant (append_assoc xs (fewest ss) (fewest vs ++ zs) ∙ turned (apart xs ss vs zs)) y

-- others before the same slots
pub follows_before : (a b c : Slots) → are_hard true c ≡ true → Follows a b → Follows (followed a c) (followed b c)
follows_before None b c h f = tt
follows_before (Some ss) None c h f = absurd f
follows_before (Some ss) (Some us) None h f = tt
follows_before (Some ss) (Some us) (Some ts) h f = λ xs zs m p a.
    subst AreMeant (turned (apart xs us ts zs)) (f xs (fewest ts ++ zs) (hard_first ts zs true h (λ e. m)) p (subst AreMeant (apart xs ss ts zs) a))

-- ---- slots that go, and plain ones in their place

module _ (ss : List Slot) (hard : is_hard_before false ss ≡ true) (keeps : Keeps ss) (ts : List Slot) (later : is_hard_before true ts ≡ true) where
  go : (vs : List Slot) → Follow ts vs → Follow (ss ++ ts) vs
  go vs f xs zs m p a =
      let x : AreMeant (xs ++ (fewest ss ++ (fewest ts ++ zs))) = subst AreMeant (apart xs ss ts zs) a in
      f xs zs m p (replaced xs (fewest ss) [] (fewest ts ++ zs) p (keeps xs (fewest ts ++ zs) x p) (λ e. subst Settled (turned (append-nil xs)) p) (hard_alone ss hard) refl (hard_first ts zs true later (λ e. m)) tt x)

  change : (us vs : List Slot) → is_hard_before false us ≡ true → Keeps us → are_plain us ≡ true → Follow ts vs → Follow (ss ++ ts) (us ++ vs)
  change us vs h k l f xs zs m p a =
      let x : AreMeant (xs ++ (fewest ss ++ (fewest ts ++ zs))) = subst AreMeant (apart xs ss ts zs) a in
      let settled : AreMeant (xs ++ fewest us) → Settled (xs ++ fewest us) = λ e. k xs [] (subst (λ z. AreMeant (xs ++ z)) (turned (append-nil (fewest us))) e) p in
      let y : AreMeant (xs ++ (fewest us ++ (fewest ts ++ zs))) = replaced xs (fewest ss) (fewest us) (fewest ts ++ zs) p (keeps xs (fewest ts ++ zs) x p) settled (hard_alone ss hard) (hard_alone us h) (hard_first ts zs true later (λ e. m)) (plain_meant us l) x in
      let z : AreMeant ((xs ++ fewest us) ++ (fewest vs ++ zs)) = f (xs ++ fewest us) zs m (k xs (fewest ts ++ zs) y p) (subst AreMeant (turned (append_assoc xs (fewest us) (fewest ts ++ zs))) y) in
      subst AreMeant (append_assoc xs (fewest us) (fewest vs ++ zs) ∙ turned (apart xs us vs zs)) z

pub follows_gone : (a c d : Slots) → are_hard false a ≡ true → are_hard true c ≡ true → Keep a → Follows c d → Follows (followed a c) d
follows_gone None c d h l k f = tt
follows_gone (Some ss) None d h l k f = tt
follows_gone (Some ss) (Some ts) None h l k f = absurd f
follows_gone (Some ss) (Some ts) (Some vs) h l k f = go ss h k ts l vs f

pub follows_changed : (a b c d : Slots) → are_hard false a ≡ true → are_hard true c ≡ true → Keep a → are_hard false b ≡ true → Keep b → (us : List Slot) → b ≡ Some us → are_plain us ≡ true → Follows c d → Follows (followed a c) (followed b d)
follows_changed None b c d h l k i n us e q f = tt
follows_changed (Some ss) b None d h l k i n us e q f = tt
follows_changed (Some ss) b (Some ts) None h l k i n us e q f = absurd f
follows_changed (Some ss) b (Some ts) (Some vs) h l k i n us e q f =
    subst (λ z. Follows (Some (ss ++ ts)) (followed z (Some vs))) (turned e)
    (change ss h k ts l us vs (subst (λ z. are_hard false z ≡ true) e i) (subst Keep e n) q f)
