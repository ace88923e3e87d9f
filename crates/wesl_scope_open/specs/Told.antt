-- Blocks that are told by their numbers.
use Rattle.std.specs.Prelude.{◌≡◌, ℕ, List}
use Rattle.std.specs.List.{All}
use Rattle.wesl_tree_names.specs.Path.{Text}
use Rattle.wesl_scope_occurrences.specs.Occurrences.{Block, Occurrence}
use Rattle.wesl_scope_open.specs.Open.{number_of}

-- the block of each identifier is the one that `w` gives for its number
abbrev pub AreToldBy : (ℕ → Block) → List (Occurrence Text) → Type 0
AreToldBy w all = All (λ o. o.block ≡ w (number_of o.block)) all
