use Rattle.wesl_tree_syntax.specs.Tree.{attribute_node}
use Rattle.wesl_tree_syntax.specs.View.{attribute_view, placed}
use Rattle.wesl_visit_collect.proofs.Adds.{Walked}
use Rattle.wesl_visit_collect.proofs.collect.attribute.at_attributes.Given as goal

abbrev pub invariant-loop-attribute : goal.invariant-loop-attribute
invariant-loop-attribute g l = Walked g.T.Kind.sought g.T.Kind.view (placed attribute_view attribute_node) l.initial.found l.attribute-items l.attribute-index l.found
