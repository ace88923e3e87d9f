-- What stands round a block and in it, in one list: fields of a node round its block first, and then what is in it.
use Rattle.std.proofs.Common.{◌≡◌, ℕ, suc, ◌≤◌, List, [], ◌∷◌, ◌++◌, refl, sym, ◌∙◌, ap, subst, arith, inl}
use Rattle.wesl_tree_names.specs.Path.{Text}
use Rattle.wesl_scope_occurrences.specs.Occurrences.{Block}
use Rattle.wesl_scope_occurrences.specs.Events.{EventOf, opens, closes}
use Rattle.wesl_scope_open.proofs.Runs.{append_again, Found}
use Rattle.wesl_scope_open.proofs.Good.{wider, Outwards, Good, good_then}
use Rattle.wesl_scope_open.proofs.Still.{Still, still_none, still_then, still_good}
use Rattle.wesl_scope_open.proofs.Blocks.{opened}

-- good, with other numbers
pub good_wider : (lo : ℕ) (b : Block) (p p' q r q' : ℕ) (es : List (EventOf Text)) (os : List Found) → q' ≤ r → Good lo b p p' q q' es os → Good lo b p p' q r es os
good_wider lo b p p' q r q' es os h g =
    let gw = g.wider in
    record {
      later = g.later;
      wider = omega (arith, h, gw);
      placed = wider b p p' q q' b p p' q r (omega arith) (omega arith) (omega arith) h (λ c f. inl f) os g.placed;
      runs = λ all known out a v outer k. g.runs all known out (record { grows = λ w n x i j l m. a.grows w n x i j l (omega (arith, m, h)); fresh = λ w n i j. a.fresh w n i (omega (arith, j, h)) }) v outer k;
    }

pub good_lower : (lo : ℕ) (b : Block) (p p' q r q' : ℕ) (es : List (EventOf Text)) (os : List Found) → q ≤ r → Good lo b p p' r q' es os → Good lo b p p' q q' es os
good_lower lo b p p' q r q' es os h g =
    let gw = g.wider in
    record {
      later = g.later;
      wider = omega (arith, h, gw);
      placed = wider b p p' r q' b p p' q q' (omega arith) (omega arith) h (omega arith) (λ c f. inl f) os g.placed;
      runs = λ all known out a v outer k. g.runs all known out (record { grows = a.grows; fresh = λ w n i j. a.fresh w n (omega (arith, i, h)) j }) v outer k;
    }

pub good_at : (lo : ℕ) (b : Block) (p x p' q y r q' : ℕ) (es : List (EventOf Text)) (os : List Found) → x ≡ p' → q ≤ y → q' ≤ r → Good lo b p x y q' es os → Good lo b p p' q r es os
good_at lo b p x p' q y r q' es os e f h g = good_wider lo b p p' q r q' es os h (good_lower lo b p p' q y q' es os f (subst (λ z. Good lo b p z y q' es os) e g))

pub good_as : (lo : ℕ) (b : Block) (p p' q q' : ℕ) (es fs : List (EventOf Text)) (os us : List Found) → fs ≡ es → us ≡ os → Good lo b p p' q q' es os → Good lo b p p' q q' fs us
good_as lo b p p' q q' es fs os us e f g = subst (λ xs. Good lo b p p' q q' xs us) (sym e) (subst (λ ys. Good lo b p p' q q' es ys) (sym f) g)

-- what is round block c stands in block b
pub record Around (lo : ℕ) (b c : Block) (p p' r q' : ℕ) (all : List (EventOf Text)) (found : List Found) : Type 0 where
  pub mid : ℕ
  pub es : List (EventOf Text)
  pub fs : List (EventOf Text)
  pub os : List Found
  pub us : List Found
  pub same_events : all ≡ es ++ fs
  pub same_found : found ≡ os ++ us
  pub still : Still b p mid es os
  pub good : Good lo c mid p' r q' fs us

module _ (lo : ℕ) (b c : Block) where
  pub around_as : (p p' r q' : ℕ) (es fs : List (EventOf Text)) (os us : List Found) → fs ≡ es → us ≡ os → Around lo b c p p' r q' es os → Around lo b c p p' r q' fs us
  around_as p p' r q' es fs os us e f a = subst (λ xs. Around lo b c p p' r q' xs us) (sym e) (subst (λ ys. Around lo b c p p' r q' es ys) (sym f) a)

  pub around_lower : (p p' q r q' : ℕ) (es : List (EventOf Text)) (os : List Found) → q ≤ r → Around lo b c p p' r q' es os → Around lo b c p p' q q' es os
  around_lower p p' q r q' es os h a = record { mid = a.mid; es = a.es; fs = a.fs; os = a.os; us = a.us; same_events = a.same_events; same_found = a.same_found; still = a.still; good = good_lower lo c a.mid p' q r q' a.fs a.us h a.good }

  pub around_good : (p p' r q' : ℕ) (es : List (EventOf Text)) (os : List Found) → Good lo c p p' r q' es os → Around lo b c p p' r q' es os
  around_good p p' r q' es os g = record { mid = p; es = []; fs = es; os = []; us = os; same_events = refl; same_found = refl; still = still_none b p p (omega arith); good = g }

  pub around_before : (p p0 p' r q' : ℕ) (xs es : List (EventOf Text)) (ys os : List Found) → Still b p p0 xs ys → Around lo b c p0 p' r q' es os → Around lo b c p p' r q' (xs ++ es) (ys ++ os)
  around_before p p0 p' r q' xs es ys os s a = record {
    mid = a.mid;
    es = xs ++ a.es;
    fs = a.fs;
    os = ys ++ a.os;
    us = a.us;
    same_events = ap (λ t. xs ++ t) a.same_events ∙ sym (append_again xs a.es a.fs);
    same_found = ap (λ t. ys ++ t) a.same_found ∙ sym (append_again ys a.os a.us);
    still = still_then b p p0 a.mid xs a.es ys a.os s a.still;
    good = a.good;
  }

  pub around_after : (p p1 p2 r q1 q2 : ℕ) (es fs : List (EventOf Text)) (os us : List Found) → lo ≤ r → Around lo b c p p1 r q1 es os → Good lo c p1 p2 q1 q2 fs us → Around lo b c p p2 r q2 (es ++ fs) (os ++ us)
  around_after p p1 p2 r q1 q2 es fs os us low a g = record {
    mid = a.mid;
    es = a.es;
    fs = a.fs ++ fs;
    os = a.os;
    us = a.us ++ us;
    same_events = ap (λ t. t ++ fs) a.same_events ∙ append_again a.es a.fs fs;
    same_found = ap (λ t. t ++ us) a.same_found ∙ append_again a.os a.us us;
    still = a.still;
    good = good_then lo c a.mid p1 p2 r q1 q2 a.fs fs a.us us low a.good g;
  }

pub closing : (lo : ℕ) (b : Block) (p p' q r q' : ℕ) (es : List (EventOf Text)) (os : List Found) → lo ≤ q → suc q ≤ r → Outwards lo q b → Around lo b (q ∷ b) p p' r q' es os → Good lo b p p' q q' (opens ∷ (es ++ closes ∷ [])) os
closing lo b p p' q r q' es os low some way a =
    good_as lo b p p' q q' (opens ∷ ((a.es ++ a.fs) ++ closes ∷ [])) (opens ∷ (es ++ closes ∷ [])) (a.os ++ a.us) os (ap (λ t. opens ∷ (t ++ closes ∷ [])) a.same_events) a.same_found
    (opened lo b p a.mid p' q r q' low some way a.es a.fs a.os a.us a.still a.good)

-- round a block that is in use already
pub around_same : (lo : ℕ) (c : Block) (p p' q q' : ℕ) (es : List (EventOf Text)) (os : List Found) → lo ≤ q → Outwards lo q c → Around lo c c p p' q q' es os → Good lo c p p' q q' es os
around_same lo c p p' q q' es os low way a =
    good_as lo c p p' q q' (a.es ++ a.fs) es (a.os ++ a.us) os a.same_events a.same_found
    (good_then lo c p a.mid p' q q q' a.es a.fs a.os a.us low (still_good lo c p a.mid q q a.es a.os (omega arith) way a.still) a.good)
