-- Which trees have a place in the source.
use Rattle.std.specs.Prelude.{Bool, false, not, ◌||◌}
use Rattle.wesl_tree_syntax.specs.Tree.{LabelOf, ForestOf, at, end, tree}
use Rattle.wesl_json_form.specs.Writing.{is_nowhere}

module _ {I : Type 0} where
  -- a label that says a place other than 0..0
  abbrev pub is_place : LabelOf I → Bool
  is_place (at k start stop) = not (is_nowhere start stop)
  is_place _ = false

  -- a node in the trees has a place other than 0..0
  abbrev pub has_place : ForestOf I → Bool
  has_place end = false
  has_place (tree l children others) = is_place l || has_place children || has_place others
