-- Imports that are passed, since none of them is found.
use Rattle.std.proofs.Common.{◌≡◌, inl, inr, ℕ, zero, suc, ◌+◌, ◌<◌, ◌≤◌, Bool, true, false, List, [], ◌∷◌, slice_get, Some, arith, refl, sym, ap, ap₂, ◌∙◌}
use Rattle.std.specs.Prelude.{not, ◌&&◌, ◌||◌, ◌==◌}
use Rattle.std.specs.List.{list_any}
use Rattle.std.proofs.lemmas.Bool.{cases_lt}
use Rattle.std.proofs.lemmas.Bool.Decides.{Decides-eqb}
use Rattle.wesl_cond_choices.specs.declared.place.Place.{Place}
use Rattle.wesl_tree_base.specs.declared.ids.NameId.{NameId}
use Rattle.wesl_link_symbols.specs.declared.ids.PathId.{PathId}
use Rattle.wesl_link_symbols.specs.declared.row.Extent.{Extent}
use Rattle.wesl_link_symbols.specs.declared.symbols.Import.{Import}
use Rattle.wesl_link_symbols.specs.Row.{AreAlike, HasExtent, IsRun, Passes}
use Rattle.wesl_link_symbols.specs.declared.row.Likeness.TheVariants.{Alike}
use Rattle.wesl_link_symbols.specs.RowView.{IsUnseen}
use Rattle.wesl_link_targets.specs.Sought.{is_found, is_sought, sees}
use Rattle.wesl_link_targets.specs.declared.targets.Sought.{Sought}
use Rattle.wesl_link_targets.specs.declared.targets.Sought.TheVariants as sought

abbrev Kind : Type 0
Kind = Import PathId NameId

-- ---- tests

pub and_false : (a : Bool) → (a && false) ≡ false
and_false true = refl
and_false false = refl

or_true : (a : Bool) → (a || true) ≡ true
or_true true = refl
or_true false = refl

-- ---- lists

-- one is found at an index
pub any_at : {X : Type 0} (p : X → Bool) (xs : List X) (i : ℕ) (x : X) → slice_get xs i ≡ Some x → p x ≡ true → list_any p xs ≡ true
any_at p [] i x at t = absurd (let z : ⊥ = cc in z)
any_at p (y ∷ xs) zero x at t = let same : y ≡ x = cc in ap (λ b. b || list_any p xs) (ap p same ∙ t)
any_at p (y ∷ xs) (suc i) x at t = ap (λ b. p y || b) (any_at p xs i x at t) ∙ or_true (p y)

-- none is
pub none_at : {X : Type 0} (p : X → Bool) (xs : List X) → ((i : ℕ) (x : X) → slice_get xs i ≡ Some x → p x ≡ false) → list_any p xs ≡ false
none_at p [] h = refl
none_at p (x ∷ xs) h = ap₂ (λ a b. a || b) (h 0 x refl) (none_at p xs (λ i y at. h (suc i) y at))

-- ---- alike imports are looked for alike

pub sought_alike : (s : Sought) (i j : Kind) → AreAlike i j → is_sought s j ≡ is_sought s i
sought_alike sought.Published i j alike = sym alike.published
sought_alike (sought.Other is_hidden path item) i j alike =
    ap₂ (λ b c. not (is_hidden && b) && not c) (sym alike.published)
    (ap₂ (λ (p : PathId) (n : NameId). path.0 == p.0 && item.0 == n.0) (sym alike.target.path) (sym alike.target.item))

-- so those of a run are not, if the first is not
pub run_unsought : (s : Sought) (row : List Kind) (i end : ℕ) (x : Kind) → slice_get row i ≡ Some x → IsRun Alike row i end → is_sought s x ≡ false
    → Passes (λ (k : Kind). is_sought s k ≡ false) row (i + 1) end
run_unsought s row i end x at run none k y low high there = sought_alike s x y (run.1 x at k y (omega (arith, low)) high there) ∙ none

-- ---- those of a name that are seen from a place

module _ (alive : List (List Place)) (n : NameId) (from : Place) (s : Sought) where
  -- none of those before an index is found
  abbrev pub NoneBefore : List Kind → ℕ → Type 0
  NoneBefore row i = (k : ℕ) (x : Kind) → k < i → slice_get row k ≡ Some x → is_found alive n from s x ≡ false

  not_seen : (x : Kind) → IsUnseen alive from x → is_found alive n from s x ≡ false
  not_seen x u =
      let unseen : sees alive from x.place ≡ false = ap₂ (λ a b. a || b) u.0 u.1 in
      ap (λ b. n.0 == x.bound.0 && (is_sought s x && b)) unseen ∙ (ap (λ b. n.0 == x.bound.0 && b) (and_false (is_sought s x)) ∙ and_false (n.0 == x.bound.0))

  not_sought : (x : Kind) → is_sought s x ≡ false → is_found alive n from s x ≡ false
  not_sought x h = ap (λ b. n.0 == x.bound.0 && (b && sees alive from x.place)) h ∙ and_false (n.0 == x.bound.0)

  not_named : (x : Kind) → (x.bound ≡ n → ⊥) → is_found alive n from s x ≡ false
  not_named x h = by (n.0 == x.bound.0) refl
    where
      by : (b : Bool) → (n.0 == x.bound.0) ≡ b → (b && (is_sought s x && sees alive from x.place)) ≡ false
      by false e = refl
      by true e = absurd (h (ap (λ (k : ℕ). record { 0 = k }) (sym ((Decides-eqb n.0 x.bound.0).0 e))))

  module _ (row : List Kind) (e : Extent) (has : HasExtent row n e) where
    pub none_start : (i : ℕ) → Passes (IsUnseen alive from) row e.start i → NoneBefore row i
    none_start i passed k x below at = elim (cases_lt k e.start) [
      | inl before ↦ not_named x (λ named. omega (arith, before, (has k x at named).0))
      | inr behind ↦ not_seen x (passed k x behind below at)
    ]

    pub none_next : (i j m : ℕ) (x : Kind) → NoneBefore row i → slice_get row i ≡ Some x → is_found alive n from s x ≡ false
        → Passes (λ (k : Kind). is_sought s k ≡ false) row (i + 1) j → Passes (IsUnseen alive from) row j m → NoneBefore row m
    none_next i j m x none at missed unsought passed k y below there = elim (cases_lt k i) [
      | inl before ↦ none k y before there
      | inr behind ↦ elim (cases_lt k (i + 1)) [
        | inl here ↦
            let same : i ≡ k = omega (arith, behind, here) in
            let is : Some x ≡ Some y = sym at ∙ (ap (slice_get row) same ∙ there) in
            let one : x ≡ y = cc in
            ap (is_found alive n from s) (sym one) ∙ missed
        | inr later ↦ elim (cases_lt k j) [
          | inl within ↦ not_sought y (unsought k y later within there)
          | inr beyond ↦ not_seen y (passed k y beyond below there)
        ]
      ]
    ]

    pub none_found : (i : ℕ) → NoneBefore row i → e.end ≤ i → list_any (is_found alive n from s) row ≡ false
    none_found i none last =
        none_at (is_found alive n from s) row
        (λ k x at. elim (cases_lt k i) [
          | inl before ↦ none k x before at
          | inr behind ↦ not_named x (λ named. omega (arith, behind, last, (has k x at named).1))
        ])
