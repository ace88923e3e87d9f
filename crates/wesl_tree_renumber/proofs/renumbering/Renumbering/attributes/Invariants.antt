use Rattle.wesl_tree_syntax.specs.Tree.{attribute_node}
use Rattle.wesl_tree_syntax.specs.View.{attribute_view, placed}
use Rattle.wesl_tree_renumber.proofs.Listed.{SoFar}
use Rattle.wesl_tree_renumber.proofs.renumbering.Renumbering.attributes.Given as goal

abbrev pub invariant-loop-attribute : goal.invariant-loop-attribute
invariant-loop-attribute l = SoFar (placed attribute_view attribute_node) l.fn.self l.self l.initial.attribute-items l.attribute-index l.attribute-items
