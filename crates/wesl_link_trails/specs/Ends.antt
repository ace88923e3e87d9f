-- Questions in the order in which walks asked them first, and how the hops end that walks came by.
use Rattle.std.specs.Prelude.{◌≡◌, ◌⊎◌, ℕ, ◌<◌, ◌≤◌, slice_get, Some, List, Contains}
use Rattle.wesl_link_symbols.specs.declared.ids.PathId.{PathId}
use Rattle.wesl_tree_base.specs.declared.ids.NameId.{NameId}
use Rattle.wesl_link_symbols.specs.declared.symbols.LookUp.{LookUp}
use Rattle.wesl_link_symbols.specs.Keyed.{Puts}
use Rattle.wesl_link_trails.specs.declared.ends.Ending.{Ending}

module _ {Q : Type 0} where
  -- the question is one of the first so many
  abbrev pub IsAmong : List Q → ℕ → Q → Type 0
  IsAmong asked n q = (k : ℕ) × (k < n) × (slice_get asked k ≡ Some q)

  -- the question is none of the first so many
  abbrev pub IsNotBefore : List Q → Q → ℕ → Type 0
  IsNotBefore asked q n = (k : ℕ) → slice_get asked k ≡ Some q → n ≤ k

-- the map tells of each question where it was asked first
pub record AreNumbered {Q : Type 0} (asked : List Q) (firsts : List (Q × ℕ)) : Type 0 where
  pub there : (q : Q) (n : ℕ) → Contains firsts (q, n) → Contains asked q
  pub first : (q : Q) (n : ℕ) → Contains firsts (q, n) → IsNotBefore asked q n
  pub noted : (q : Q) → Contains asked q → (n : ℕ) × Contains firsts (q, n)

module _ {E : Type 0} where
  -- the ends after that of a hop to the look-up is kept: they stay if one of its question is known, and else it has this
  abbrev pub KeepsEnd : List (LookUp PathId NameId × Ending E) → LookUp PathId NameId → Ending E → List (LookUp PathId NameId × Ending E) → Type 0
  KeepsEnd old next e new = ((new ≡ old) × ((k : Ending E) × Contains old (next, k) × (k.asked ≡ e.asked))) ⊎ Puts old next e new
