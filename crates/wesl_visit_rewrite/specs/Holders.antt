-- A module as one tree, and what is asked of those that rewrite it.
use Rattle.std.specs.Prelude.{◌≡◌, true, List, Option, Some, None, [], ◌∷◌, length}
use Rattle.wesl_tree_names.specs.Path.{Text}
use Rattle.wesl_tree_syntax.specs.Tree.{Tree, branch, tree_below, unit}
use Rattle.wesl_tree_syntax.specs.Unit.{UnitView}

-- its imports, directives and declarations, in this order
abbrev pub unit_tree : UnitView → Tree
unit_tree u = branch unit (u.imports ∷ u.directives ∷ u.declarations ∷ [])

-- Where there is a table of names, a node whose numbers are in it becomes such a node.
abbrev pub KeepsNumbers : Option (List Text) → (Tree → Tree → Type 0) → Type 0
KeepsNumbers None turns = Unit
KeepsNumbers (Some names) turns = (s t : Tree) → tree_below (length names) s ≡ true → turns s t → tree_below (length names) t ≡ true
