use Rattle.wesl_tree_base.specs.declared.span.Span.{Span}
use Rattle.wesl_tree_syntax.specs.Tree.{attribute_node}
use Rattle.wesl_tree_syntax.specs.View.{attribute_view, placed}
use Rattle.wesl_scope_spans.proofs.Stepped.{Walked}
use Rattle.wesl_scope_spans.proofs.attributes.in_attributes.Given as goal

abbrev pub invariant-loop-attribute : goal.invariant-loop-attribute
invariant-loop-attribute l = (s : Span) → Walked (placed attribute_view attribute_node) s l.initial.places l.attribute-items l.attribute-index l.places
