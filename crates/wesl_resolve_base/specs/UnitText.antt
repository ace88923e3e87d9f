-- What a form in which units are written as texts keeps.
use Rattle.std.specs.Prelude.{◌≡◌, ◌⊎◌, List, [], ◌∷◌, ◌++◌, None, Some, All}
use Rattle.wesl_tree_names.specs.Path.{Path}
use Rattle.wesl_tree_names.specs.PathText.{parse, to_text}
use Rattle.wesl_tree_syntax.specs.Tree.{ForestOf, end, tree, path}
use Rattle.wesl_tree_syntax.specs.Unit.{UnitOf, forest_of_unit}

-- the paths in a tree, in document order
abbrev pub paths : {I : Type 0} → ForestOf I → List Path
paths end = []
paths (tree (path p) children others) = p ∷ (paths children ++ paths others)
paths (tree l children others) = paths children ++ paths others

-- the text of each path in the unit is that of the same path, or of none
abbrev pub HasTextPaths : {I : Type 0} → UnitOf I → Type 0
HasTextPaths u = All (λ p. (parse (to_text p) ≡ None) ⊎ (parse (to_text p) ≡ Some p)) (paths (forest_of_unit u))
