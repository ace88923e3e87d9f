use Rattle.wesl_text_guard.specs.Guards.{as_it_is}
use Rattle.wesl_tree_syntax.specs.Tree.{attribute_node}
use Rattle.wesl_tree_syntax.specs.View.{attribute_view, placed}
use Rattle.wesl_text_guard.proofs.Listed.{SoFar}
use Rattle.wesl_text_guard.proofs.guard.Guard.attributes.Given as goal

abbrev pub invariant-loop-attribute : goal.invariant-loop-attribute
invariant-loop-attribute l = SoFar as_it_is (placed attribute_view attribute_node) l.fn.self l.self l.initial.attribute-items l.attribute-index l.attribute-items
