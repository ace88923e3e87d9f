-- Imports in a row, in which those that are alike follow on each other.
use Rattle.std.specs.Prelude.{◌≡◌, ℕ, suc, ◌<◌, ◌≤◌, length, slice_get, Option, Some, None, List, Contains}
use Rattle.wesl_tree_base.specs.declared.ids.NameId.{NameId}
use Rattle.wesl_link_symbols.specs.declared.row.Extent.{Extent}
use Rattle.wesl_link_symbols.specs.declared.row.Likeness.{Likeness}
use Rattle.wesl_link_symbols.specs.declared.row.Likeness.TheVariants.{Above, Alike}
use Rattle.wesl_link_symbols.specs.declared.symbols.Import.{Import}

-- R holds of each element from one index to another
abbrev pub Passes : {X : Type 0} → (X → Type 0) → List X → ℕ → ℕ → Type 0
Passes {X} R xs i j = (k : ℕ) (x : X) → i ≤ k → k < j → slice_get xs k ≡ Some x → R x

module _ {P N : Type 0} where
  -- both bind one name and have one target
  pub record HaveOneTarget (i j : Import P N) : Type 0 where
    pub bound : i.bound ≡ j.bound
    pub path : i.path ≡ j.path
    pub item : i.item ≡ j.item

  -- they differ by where they stand alone
  pub record AreAlike (i j : Import P N) : Type 0 where
    pub target : HaveOneTarget i j
    pub published : i.published ≡ j.published
    pub from : i.from ≡ j.from
    pub order : i.order ≡ j.order

  -- the second binds the name of the first, has its target, and is of its order or of a higher one
  pub record IsAbove (i j : Import P N) : Type 0 where
    pub target : HaveOneTarget i j
    pub order : i.order ≤ j.order

  -- the second is like the first
  abbrev pub IsLike : Likeness → Import P N → Import P N → Type 0
  IsLike Alike i j = AreAlike i j
  IsLike Above i j = IsAbove i j

  -- the imports from one index to another, of which there are some, are like the first of them
  abbrev pub IsRun : Likeness → List (Import P N) → ℕ → ℕ → Type 0
  IsRun likeness row i end = (i < end) × ((x : Import P N) → slice_get row i ≡ Some x → Passes (IsLike likeness x) row i end)

  -- there are as many ends as imports, and from one index on each is that of a run
  pub record AreRunsFrom (likeness : Likeness) (row : List (Import P N)) (n : ℕ) (ends : List ℕ) : Type 0 where
    pub long : length ends ≡ length row
    pub each : (i end : ℕ) → n ≤ i → slice_get ends i ≡ Some end → IsRun likeness row i end

-- all imports of the name stand in it
abbrev pub HasExtent : {P N : Type 0} → List (Import P N) → N → Extent → Type 0
HasExtent {P} {N} row name e = (k : ℕ) (x : Import P N) → slice_get row k ≡ Some x → x.bound ≡ name → (e.start ≤ k) × (k < e.end)

-- of the first n imports: each has an extent of its name, and these hold all of them
pub record AreExtents {P N : Type 0} (row : List (Import P N)) (n : ℕ) (extents : List (N × Extent)) : Type 0 where
  pub within : (name : N) (e : Extent) → Contains extents (name, e) → (e.start ≤ e.end) × (e.end ≤ n)
  pub held : (name : N) (e : Extent) → Contains extents (name, e)
      → (k : ℕ) (x : Import P N) → k < n → slice_get row k ≡ Some x → x.bound ≡ name → (e.start ≤ k) × (k < e.end)
  pub all : (k : ℕ) (x : Import P N) → k < n → slice_get row k ≡ Some x → ((e : Extent) → Contains extents (x.bound, e) → ⊥) → ⊥

-- an extent from the start of the one that is there, if one is, to behind the index
abbrev pub IsWidened : Option Extent → ℕ → Extent → Type 0
IsWidened None i e = (e.start ≡ i) × (e.end ≡ suc i)
IsWidened (Some old) i e = (e.start ≡ old.start) × (e.end ≡ suc i)
