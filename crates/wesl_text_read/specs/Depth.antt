-- How deep trees stand in one another whose identifiers are numbers.
use Rattle.std.specs.Prelude.{ℕ, []}
use Rattle.wesl_tree_syntax.specs.Tree.{Forest, Tree, before, end, respell_forest}
use Rattle.wesl_text_form.specs.Says.{levels}

-- how many levels stand in one another, at most: whatever the names of the identifiers, so with no name for any
abbrev pub levels_of : Forest → ℕ
levels_of f = levels (respell_forest (λ _. []) f)

-- the same of one tree
abbrev pub levels_in : Tree → ℕ
levels_in t = levels_of (before t end)
