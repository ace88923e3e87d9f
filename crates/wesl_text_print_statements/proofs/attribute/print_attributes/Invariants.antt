use Rattle.wesl_text_form.specs.Productions.{an_attribute}
use Rattle.wesl_tree_syntax.specs.Tree.{attribute_node}
use Rattle.wesl_tree_syntax.specs.View.{attribute_view, placed}
use Rattle.wesl_text_print.proofs.Lists.{AreBefore, node_slots}
use Rattle.wesl_text_print_statements.proofs.attribute.print_attributes.Given as goal

abbrev pub invariant-loop-attribute : goal.invariant-loop-attribute
invariant-loop-attribute g l = AreBefore (node_slots l.names an_attribute (placed attribute_view attribute_node)) g.S.TokenSink.after l.attribute-items l.initial.out l.out l.attribute-index
