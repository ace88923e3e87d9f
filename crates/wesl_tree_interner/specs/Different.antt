-- Lists in which nothing stands twice.
use Rattle.std.specs.Prelude.{◌≡◌, ℕ, Some, List, slice_get}

-- nothing stands twice
abbrev pub AreDifferent : {X : Type 0} → List X → Type 0
AreDifferent {X} xs = (i j : ℕ) (x : X) → slice_get xs i ≡ Some x → slice_get xs j ≡ Some x → i ≡ j
