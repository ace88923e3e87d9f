-- The names met, and the number of each.
use Rattle.std.specs.Prelude.{◌≡◌, ◌↔◌, ℕ, List, Option, Some, slice_get}
use Rattle.wesl_tree_names.specs.Path.{Text}

-- a name has the number i exactly where it stands at i
abbrev pub AreNumbers : List Text → (Text → Option ℕ) → Type 0
AreNumbers names at = (name : Text) (i : ℕ) → (at name ≡ Some i) ↔ (slice_get names i ≡ Some name)
