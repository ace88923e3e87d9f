use Rattle.std.proofs.Common.{◌≡◌, drop}
use Rattle.wesl_tree_syntax.specs.Tree.{attribute_node}
use Rattle.wesl_tree_syntax.specs.View.{attribute_view, placed}
use Rattle.wesl_tree_bounds.proofs.Below.{all_below}
use Rattle.wesl_tree_bounds.proofs.parts_bounds.attributes_are_below.Given as goal

abbrev pub invariant-loop-attribute : goal.invariant-loop-attribute
invariant-loop-attribute l =
    all_below (placed attribute_view attribute_node) l.bound l.attribute-items ≡ all_below (placed attribute_view attribute_node) l.bound (drop l.attribute-index l.attribute-items)
