-- Where sight changes along a row of places.
use Rattle.std.proofs.Common.{◌≡◌, ℕ, zero, suc, ◌+◌, ◌^◌, ◌≤◌, ◌<◌, Bool, true, false, ◌&&◌, ◌||◌, List, [], ◌∷◌, ◌++◌, drop, length, map, slice_get, Option, Some, None, ◌∙◌, ap, ap₂, sym, refl, arith}
use Rattle.std.specs.Prelude.{not, nat_lt, if◌then◌else◌}
use Rattle.std.proofs.lemmas.Bool.Decides.{Decides-ltb}
use Rattle.std.proofs.lemmas.Option.{slice_get_within}
use mathlib.Core.Bool.{and-false}
use Rattle.wesl_cond_choices.specs.declared.place.Place.{Place}
use Rattle.wesl_cond_choices.specs.Choices.{Choices, has}
use Rattle.wesl_cond_choices.specs.Alive.{AreChoicesOf, set_has}
use Rattle.wesl_cond_choices.specs.Places.{is_always, keeps, together}
use Rattle.wesl_cond_covers.specs.Sight.{AreOthers, StaysSo, changes_at, changes_from, sees}
use Rattle.wesl_cond_covers.specs.Unseen.{IsApart}
use Rattle.wesl_cond_covers.proofs.Passes.{both, kept_both, not_true}

-- ---- tests

or_true : (x : Bool) → (x || true) ≡ true
or_true true = refl
or_true false = refl

not_is : (x : Bool) → not x ≡ true → x ≡ false
not_is true h = absurd (let z : ⊥ = cc in z)
not_is false h = refl

-- ---- places

kept_together : (alive : List (List Place)) (a b : Place) (k : ℕ) (kept : List Place) → slice_get alive k ≡ Some kept → keeps kept a ≡ true → keeps kept b ≡ true → together alive a b ≡ true
kept_together [] a b k kept at one other = absurd (let z : ⊥ = cc in z)
kept_together (l ∷ alive) a b zero kept at one other =
    let same : kept ≡ l = cc in
    ap (λ x. x || together alive a b) (ap (λ (m : List Place). keeps m a && keeps m b) (sym same) ∙ ap₂ (λ x y. x && y) one other)
kept_together (l ∷ alive) a b (suc k) kept at one other =
    ap (λ x. (keeps l a && keeps l b) || x) (kept_together alive a b k kept at one other) ∙ or_true (keeps l a && keeps l b)

-- a place that no choice keeps is not seen, unless it is the module itself
unkept : (alive : List (List Place)) (from p : Place) → together alive p p ≡ false → together alive from p ≡ false
unkept alive from p dead =
    not_true (together alive from p) (λ t. let (k, (kept, (at, (one, other)))) = kept_both alive from p t in
    let alive_too = kept_together alive p p k kept at other other in
    let z : ⊥ = cc in z)

-- what all choices keep that keep another place is seen from there, if some choice keeps it
all_seen : (alive : List (List Place)) (from p : Place) → ((k : ℕ) (kept : List Place) → slice_get alive k ≡ Some kept → keeps kept p ≡ true → keeps kept from ≡ true)
    → changes_at alive from true p ≡ false
all_seen alive from p with = by (together alive p p) refl
  where
    by : (b : Bool) → together alive p p ≡ b → (not (is_always p || together alive from p) && together alive p p) ≡ false
    by false e = ap (λ x. not (is_always p || together alive from p) && x) e ∙ and-false (not (is_always p || together alive from p))
    by true e =
        let (k, (kept, (at, (one, other)))) = kept_both alive p p e in
        let t : together alive from p ≡ true = kept_together alive from p k kept at (with k kept at one) one in
        ap (λ x. not (is_always p || x) && together alive p p) t ∙ ap (λ x. not x && together alive p p) (or_true (is_always p))

-- where a place is apart from the choices that do not keep another, it is not one at which sight ends
pub ends_not : (alive : List (List Place)) (from p : Place) (set : Choices) → AreOthers alive from set → IsApart alive (Some set) p → changes_at alive from true p ≡ false
ends_not alive from p set others q =
    all_seen alive from p (λ k kept at t. by k (keeps kept from) (q.none k kept at t) (others k kept at))
  where
    by : (k : ℕ) (x : Bool) → (has set k ≡ true → ⊥) → (x ≡ false → has set k ≡ true) → x ≡ true
    by k true apart there = refl
    by k false apart there = absurd (apart (there refl))

-- the choices that a set does not have are those that do not keep the place
pub others_are : (alive : List (List Place)) (place : Place) (known : Option Choices) (set c : Choices) → known ≡ Some set → length alive ≡ 2 ^ set.flags → (is_always place ≡ true → known ≡ None)
    → (is_always place ≡ false → AreChoicesOf alive place known) → ((k : ℕ) → has c k ≡ (nat_lt k (2 ^ set.flags) && not (has set k))) → AreOthers alive place c
others_are alive place known set c is long always kept others k l at not_kept = by (is_always place) refl
  where
    by : (b : Bool) → is_always place ≡ b → has c k ≡ true
    by true e = absurd (let f : known ≡ None = always e in let z : ⊥ = cc in z)
    by false e =
        let none : has set k ≡ false = ap (λ (o : Option Choices). set_has k o) (sym is) ∙ (sym (kept e k l at) ∙ not_kept) in
        let below : nat_lt k (2 ^ set.flags) ≡ true = (Decides-ltb k (2 ^ set.flags)).1 (omega (arith, slice_get_within alive k l at, long)) in
        others k ∙ ap₂ (λ x y. x && not y) below none

-- ---- a row

module _ (alive : List (List Place)) (from : Place) (b : Bool) where
  -- where sight does not change
  pub stays : (ps : List Place) (i j c d : ℕ) → c + j ≡ d + i → i ≤ j → StaysSo alive from b ps i j → changes_from alive from b c (drop i ps) ≡ changes_from alive from b d (drop j ps)
  stays [] zero zero c d e le h = refl
  stays [] zero (suc j) c d e le h = refl
  stays [] (suc i) zero c d e le h = refl
  stays [] (suc i) (suc j) c d e le h = refl
  stays (p ∷ ps) zero zero c d e le h = let same : c ≡ d = omega (arith, e) in ap (λ n. changes_from alive from b n (p ∷ ps)) same
  stays (p ∷ ps) zero (suc j) c d e le h =
      ap (λ x. if x then c ∷ changes_from alive from (not b) (suc c) ps else changes_from alive from b (suc c) ps) (h 0 p (omega arith) (omega arith) refl)
      ∙ stays ps zero j (suc c) d (omega (arith, e)) (omega arith) (λ k q low high at. h (suc k) q (omega arith) (omega (arith, high)) at)
  stays (p ∷ ps) (suc i) zero c d e le h = absurd (omega (arith, le))
  stays (p ∷ ps) (suc i) (suc j) c d e le h =
      stays ps i j c d (omega (arith, e)) (omega (arith, le)) (λ k q low high at. h (suc k) q (omega (arith, low)) (omega (arith, high)) at)

  -- at one place
  at_one : (ps : List Place) (i c : ℕ) (p : Place) → slice_get ps i ≡ Some p
      → changes_from alive from b c (drop i ps) ≡ (if changes_at alive from b p then c ∷ changes_from alive from (not b) (suc c) (drop (i + 1) ps) else changes_from alive from b (suc c) (drop (i + 1) ps))
  at_one [] i c p at = absurd (let z : ⊥ = cc in z)
  at_one (q ∷ ps) zero c p at =
      let same : q ≡ p = cc in
      ap (λ x. if changes_at alive from b x then c ∷ changes_from alive from (not b) (suc c) ps else changes_from alive from b (suc c) ps) same
  at_one (q ∷ ps) (suc i) c p at = let n : suc i + 1 ≡ suc (i + 1) = omega arith in rw n (at_one ps i c p at)

  pub stepped : (ps : List Place) (i : ℕ) (p : Place) → slice_get ps i ≡ Some p → (t : Bool) → t ≡ changes_at alive from b p
      → changes_from alive from b i (drop i ps) ≡ (if t then i ∷ [] else []) ++ changes_from alive from (if t then not b else b) (i + 1) (drop (i + 1) ps)
  stepped ps i p at t e =
      let n : suc i ≡ i + 1 = omega arith in
      at_one ps i i p at ∙ (ap (λ x. if x then i ∷ changes_from alive from (not b) (suc i) (drop (i + 1) ps) else changes_from alive from b (suc i) (drop (i + 1) ps)) (sym e) ∙ by t n)
    where
      by : (x : Bool) → suc i ≡ i + 1
          → (if x then i ∷ changes_from alive from (not b) (suc i) (drop (i + 1) ps) else changes_from alive from b (suc i) (drop (i + 1) ps))
          ≡ (if x then i ∷ [] else []) ++ changes_from alive from (if x then not b else b) (i + 1) (drop (i + 1) ps)
      by true n = ap (λ m. i ∷ changes_from alive from (not b) m (drop (i + 1) ps)) n
      by false n = ap (λ m. changes_from alive from b m (drop (i + 1) ps)) n

pub dropped_all : (ps : List Place) (i : ℕ) → length ps ≤ i → drop i ps ≡ []
dropped_all [] zero h = refl
dropped_all [] (suc i) h = refl
dropped_all (p ∷ ps) zero h = absurd (omega (arith, h))
dropped_all (p ∷ ps) (suc i) h = dropped_all ps i (omega (arith, h))

-- ---- two places that see the same

module _ (alive : List (List Place)) where
  -- no index stands before those that are counted
  late : (from : Place) (b : Bool) (ps : List Place) (i j : ℕ) (js : List ℕ) → j < i → changes_from alive from b i ps ≡ j ∷ js → ⊥
  late from b [] i j js low e = let z : ⊥ = cc in z
  late from b (p ∷ ps) i j js low e = by (changes_at alive from b p) refl (late from b ps (suc i) j js (omega (arith, low)))
    where
      by : (x : Bool) → changes_at alive from b p ≡ x → (changes_from alive from b (suc i) ps ≡ j ∷ js → ⊥) → ⊥
      by true t rest =
          let f : (i ∷ changes_from alive from (not b) (suc i) ps) ≡ j ∷ js =
          sym (ap (λ x. if x then i ∷ changes_from alive from (not b) (suc i) ps else changes_from alive from b (suc i) ps) t) ∙ e in
          let same : i ≡ j = cc in
          omega (arith, same, low)
      by false t rest =
          rest
          (sym (ap (λ x. if x then i ∷ changes_from alive from (not b) (suc i) ps else changes_from alive from b (suc i) ps) t) ∙ e)

  -- one place
  sees_alike : (p q : Place) (b c : Bool) (x : Place) → changes_at alive p b x ≡ c → changes_at alive q b x ≡ c → sees alive p x ≡ sees alive q x
  sees_alike p q false c x e f = e ∙ sym f
  sees_alike p q true true x e f =
      not_is (sees alive p x) (both (not (sees alive p x)) (together alive x x) e).0 ∙ sym (not_is (sees alive q x) (both (not (sees alive q x)) (together alive x x) f).0)
  sees_alike p q true false x e f = by (together alive x x) refl
    where
      seen_so : (a : Bool) → (not a && true) ≡ false → a ≡ true
      seen_so true h = refl
      seen_so false h = absurd (let z : ⊥ = cc in z)

      by : (d : Bool) → together alive x x ≡ d → sees alive p x ≡ sees alive q x
      by true t =
          seen_so (sees alive p x) (ap (λ y. not (sees alive p x) && y) (sym t) ∙ e) ∙ sym (seen_so (sees alive q x) (ap (λ y. not (sees alive q x) && y) (sym t) ∙ f))
      by false t = ap (λ y. is_always x || y) (unkept alive p x t) ∙ sym (ap (λ y. is_always x || y) (unkept alive q x t))

  abbrev Tells : Place → Place → ℕ → List Place → Bool → Type 0
  Tells p q i ps b = changes_from alive p b i ps ≡ changes_from alive q b i ps → map (sees alive p) ps ≡ map (sees alive q) ps

  pub told : (p q : Place) (b : Bool) (i : ℕ) (ps : List Place) → changes_from alive p b i ps ≡ changes_from alive q b i ps → map (sees alive p) ps ≡ map (sees alive q) ps
  told p q b i [] e = refl
  told p q b i (x ∷ ps) e = by (changes_at alive p b x) (changes_at alive q b x) refl refl (told p q (not b) (suc i) ps) (told p q b (suc i) ps)
    where
      from_of : Place → Bool → List ℕ
      from_of r y = if y then i ∷ changes_from alive r (not b) (suc i) ps else changes_from alive r b (suc i) ps

      by : (y z : Bool) → changes_at alive p b x ≡ y → changes_at alive q b x ≡ z → Tells p q (suc i) ps (not b) → Tells p q (suc i) ps b → map (sees alive p) (x ∷ ps) ≡ map (sees alive q) (x ∷ ps)
      by true true t u turned same =
          let f : (i ∷ changes_from alive p (not b) (suc i) ps) ≡ i ∷ changes_from alive q (not b) (suc i) ps = sym (ap (from_of p) t) ∙ (e ∙ ap (from_of q) u) in
          let rest : changes_from alive p (not b) (suc i) ps ≡ changes_from alive q (not b) (suc i) ps = cc in
          ap₂ (λ (h : Bool) (hs : List Bool). h ∷ hs) (sees_alike p q b true x t u) (turned rest)
      by false false t u turned same =
          ap₂ (λ (h : Bool) (hs : List Bool). h ∷ hs) (sees_alike p q b false x t u) (same (sym (ap (from_of p) t) ∙ (e ∙ ap (from_of q) u)))
      by true false t u turned same = absurd (late q b ps (suc i) i (changes_from alive p (not b) (suc i) ps) (omega arith) (sym (ap (from_of q) u) ∙ (sym e ∙ ap (from_of p) t)))
      by false true t u turned same = absurd (late p b ps (suc i) i (changes_from alive q (not b) (suc i) ps) (omega arith) (sym (ap (from_of p) t) ∙ (e ∙ ap (from_of q) u)))

  pub tells : (p q : Place) (b : Bool) (i : ℕ) (ps : List Place) → map (sees alive p) ps ≡ map (sees alive q) ps → changes_from alive p b i ps ≡ changes_from alive q b i ps
  tells p q b i [] e = refl
  tells p q b i (x ∷ ps) e =
      let here : sees alive p x ≡ sees alive q x = cc in
      let rest : map (sees alive p) ps ≡ map (sees alive q) ps = cc in
      let turns : changes_at alive p b x ≡ changes_at alive q b x = ap (λ y. if b then not y && together alive x x else y) here in
      let one : changes_from alive p (not b) (suc i) ps ≡ changes_from alive q (not b) (suc i) ps = tells p q (not b) (suc i) ps rest in
      let other : changes_from alive p b (suc i) ps ≡ changes_from alive q b (suc i) ps = tells p q b (suc i) ps rest in
      (λ t. if turns t then i ∷ one t else other t)
