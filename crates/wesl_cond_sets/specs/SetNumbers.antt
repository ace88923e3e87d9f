-- Sets of choices that have numbers, each kept once.
use Rattle.std.specs.Prelude.{◌≡◌, ℕ, List, length, get_or, slice_get, Contains}
use Rattle.wesl_cond_choices.specs.Choices.{Choices}
use Rattle.wesl_cond_sets.specs.declared.sets.SetNumbers.{SetNumbers}

-- where the set of a number stands among those that are kept, by the places of all numbers: behind them, where there is none
abbrev pub place_of : List Choices → List ℕ → ℕ → ℕ
place_of kept places n = get_or places n (length kept)

-- the same of those that the code keeps
abbrev pub place_in : SetNumbers → ℕ → ℕ
place_in s = place_of s.kept.keys s.places.items

-- these sets are kept, and none beside: each stands at the place of its number
pub record AreKept (kept : List Choices) (places : List ℕ) (sets : List Choices) : Type 0 where
  pub count : length places ≡ length sets
  pub at : (n : ℕ) → slice_get kept (place_of kept places n) ≡ slice_get sets n
  pub only : (c : Choices) → Contains kept c → Contains sets c

-- the same of those that the code keeps
abbrev pub HasSets : SetNumbers → List Choices → Type 0
HasSets s sets = AreKept s.kept.keys s.places.items sets
