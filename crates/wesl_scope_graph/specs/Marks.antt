-- Marks of nodes, one for each.
use Rattle.std.specs.Prelude.{◌≡◌, ◌⊎◌, ◌↔◌, ◌+◌, ◌<◌, ℕ, Bool, true, false, List, length, slice_index_or, if◌then◌else◌}
use Rattle.std.specs.List.{Contains, sum_by}

-- whether node a has its mark; past the end of the marks there is none
abbrev pub mark_at : List Bool → ℕ → Bool
mark_at ms a = slice_index_or ms a false

-- how many are not marked
abbrev pub unmarked : List Bool → ℕ
unmarked ms = sum_by (λ m. if m then 0 else 1) ms

-- The nodes `ns` are met: those are marked that have a place among the marks, and each that gets its mark now is put on
-- the way, once.
pub record Meets (ns : List ℕ) (before after : List Bool) (way longer : List ℕ) : Type 0 where
  pub sized : length after ≡ length before
  pub marks : (a : ℕ) → (mark_at after a ≡ true) ↔ ((mark_at before a ≡ true) ⊎ (Contains ns a × (a < length before)))
  pub put : (a : ℕ) → Contains longer a ↔ (Contains way a ⊎ ((mark_at before a ≡ false) × (mark_at after a ≡ true)))
  pub once : unmarked after + length longer ≡ unmarked before + length way
