-- What stands first and side by side among trees.
use Rattle.std.specs.Prelude.{Bool, false, ◌||◌, List, [], ◌∷◌}
use Rattle.wesl_tree_syntax.specs.Tree.{LabelOf, ForestOf, end, tree, ident}

module _ {I : Type 0} where
  -- whether the first tree's label passes
  abbrev pub begins : (LabelOf I → Bool) → ForestOf I → Bool
  begins p end = false
  begins p (tree l children others) = p l

  -- what the first tree holds
  abbrev pub first_children : ForestOf I → ForestOf I
  first_children end = end
  first_children (tree l children others) = children

  -- whether one of these trees holds a tree whose label passes as its first
  abbrev pub one_begins : (LabelOf I → Bool) → ForestOf I → Bool
  one_begins p end = false
  one_begins p (tree l children others) = begins p children || one_begins p others

  -- the identifiers that stand side by side here
  abbrev pub own_identifiers : ForestOf I → List I
  own_identifiers end = []
  own_identifiers (tree (ident r x) children others) = x ∷ own_identifiers others
  own_identifiers (tree l children others) = own_identifiers others
