-- Which mount of a router a path goes to, and what is asked of it there.
use Rattle.std.specs.Prelude.{◌≡◌, ◌≤◌, ℕ, List, map, Option, Some, None, true, false, IsSomeAnd, IfSome, ◌⊎◌, length, slice_get}
use Rattle.wesl_tree_names.specs.Path.{Path, path_view, starts_with}
use Rattle.wesl_tree_names.specs.declared.path.ModulePath.{ModulePath}
use Rattle.wesl_resolve_base.specs.Suffixes.{suffix}

-- the number of components in the prefix of a mount
abbrev pub prefix_length : {B : Type 0} → ModulePath × B → ℕ
prefix_length m = length (path_view m.0).components

-- the mount at this place takes the path: its prefix begins the path, and among the mounts whose prefix does, none
-- has a longer one, and none with one as long stands later
pub record Takes {B : Type 0} (mounts : List (ModulePath × B)) (p : Path) (place : ℕ) (m : ModulePath × B) : Type 0 where
  pub there : slice_get mounts place ≡ Some m
  pub begins : starts_with p (path_view m.0) ≡ true
  pub longest : (k : ℕ) (other : ModulePath × B) → slice_get mounts k ≡ Some other → starts_with p (path_view other.0) ≡ true
      → (prefix_length other ≤ prefix_length m) × (prefix_length other ≡ prefix_length m → k ≤ place)

-- no mount's prefix begins the path
abbrev pub TakenByNone : {B : Type 0} → List (ModulePath × B) → Path → Type 0
TakenByNone {B} mounts p = (k : ℕ) (other : ModulePath × B) → slice_get mounts k ≡ Some other → starts_with p (path_view other.0) ≡ false

-- the place of the mount that takes the path, if there is one
abbrev pub IsRoute : {B : Type 0} → List (ModulePath × B) → Path → Option ℕ → Type 0
IsRoute mounts p None = TakenByNone mounts p
IsRoute {B} mounts p (Some place) = (m : ModulePath × B) × Takes mounts p place m

-- the resolver that the path goes to answers so at the components after the prefix; where no mount takes the path,
-- the fallback does at all its components
abbrev pub Routed : {B : Type 0} → (B → Path → Type 0) → List (ModulePath × B) → Option B → Path → Type 0
Routed {B} Answers mounts fallback p =
    ((place : ℕ) × (m : ModulePath × B) × Takes mounts p place m × Answers m.1 (suffix (prefix_length m) p))
    ⊎ (TakenByNone mounts p × IsSomeAnd fallback (λ b. Answers b (suffix 0 p)))

-- no mount takes the path, and there is no fallback
abbrev pub NoRoute : {B : Type 0} → List (ModulePath × B) → Option B → Path → Type 0
NoRoute mounts fallback p = TakenByNone mounts p × (fallback ≡ None)

-- A call for the path leaves as they were all prefixes, each mount that does not take the path, and the fallback where
-- one does; what has no fallback gets none.
pub record LeavesOthers {B : Type 0} (p : Path) (mounts : List (ModulePath × B)) (fallback : Option B) (mounts_after : List (ModulePath × B)) (fallback_after : Option B) : Type 0 where
  pub prefixes : map (λ m. m.0) mounts_after ≡ map (λ m. m.0) mounts
  pub mounted : (k : ℕ) (m : ModulePath × B) → slice_get mounts k ≡ Some m → (Takes mounts p k m → ⊥) → slice_get mounts_after k ≡ Some m
  pub beside : (TakenByNone mounts p → ⊥) → fallback_after ≡ fallback
  pub no_fallback : fallback ≡ None → fallback_after ≡ None

-- each resolver that is mounted may be asked, and so may the fallback
pub record AllReady {B : Type 0} (ready : B → Type 0) (mounts : List (ModulePath × B)) (fallback : Option B) : Type 0 where
  pub mounted : (k : ℕ) (m : ModulePath × B) → slice_get mounts k ≡ Some m → ready m.1
  pub beside : IfSome fallback ready

-- each resolver that is mounted stands so to the one that was mounted in its place, and the fallback to the fallback
pub record KeepsEach {B : Type 0} (Same : B → B → Type 0) (mounts : List (ModulePath × B)) (fallback : Option B) (mounts_after : List (ModulePath × B)) (fallback_after : Option B) : Type 0 where
  pub mounted : (k : ℕ) (m after : ModulePath × B) → slice_get mounts k ≡ Some m → slice_get mounts_after k ≡ Some after → Same m.1 after.1
  pub beside : (b after : B) → fallback ≡ Some b → fallback_after ≡ Some after → Same b after
