-- Which of places in a row are seen from another place, told by where this changes along the row.
use Rattle.std.specs.Prelude.{◌≡◌, ◌≤◌, ◌<◌, ◌↔◌, ℕ, suc, Bool, true, false, not, ◌&&◌, ◌||◌, if◌then◌else◌, List, [], ◌∷◌, map, slice_get, Some}
use Rattle.wesl_cond_choices.specs.declared.place.Place.{Place}
use Rattle.wesl_cond_choices.specs.Choices.{Choices, has}
use Rattle.wesl_cond_choices.specs.Places.{is_always, keeps, together}

module _ (alive : List (List Place)) where
  -- each choice that does not keep the place is in the set
  abbrev pub AreOthers : Place → Choices → Type 0
  AreOthers place c = (k : ℕ) (kept : List Place) → slice_get alive k ≡ Some kept → keeps kept place ≡ false → has c k ≡ true

  module _ (from : Place) where
    -- what is placed at `p` is seen from the place `from`: `p` is `Always`, or some choice of flags keeps both
    abbrev pub sees : Place → Bool
    sees p = is_always p || together alive from p

    -- sight changes at a place: where none was seen before, at one that is, and else at one that is not, though some choice
    -- keeps it
    abbrev pub changes_at : Bool → Place → Bool
    changes_at is_seeing p = if is_seeing then not (sees p) && together alive p p else sees p

    -- the indices, counted from i on, at which sight changes
    abbrev pub changes_from : Bool → ℕ → List Place → List ℕ
    changes_from is_seeing i [] = []
    changes_from is_seeing i (p ∷ ps) =
        if changes_at is_seeing p then i ∷ changes_from (not is_seeing) (suc i) ps else changes_from is_seeing (suc i) ps

    -- sight changes at no place from one index to another
    abbrev pub StaysSo : Bool → List Place → ℕ → ℕ → Type 0
    StaysSo is_seeing places i j = (k : ℕ) (p : Place) → i ≤ k → k < j → slice_get places k ≡ Some p → changes_at is_seeing p ≡ false

-- from two places the same places of a row are seen exactly where sight changes at the same indices
abbrev pub ChangesTell : Type 0
ChangesTell =
    (alive : List (List Place)) (a b : Place) (places : List Place)
    → (changes_from alive a false 0 places ≡ changes_from alive b false 0 places) ↔ (map (sees alive a) places ≡ map (sees alive b) places)
