use Rattle.wesl_tree_syntax.specs.Tree.{attribute_node}
use Rattle.wesl_tree_syntax.specs.View.{attribute_view, placed}
use Rattle.wesl_json_form.specs.Schema.{an_attribute}
use Rattle.wesl_json_print_nodes.proofs.Lists.{AreNodesBefore}
use Rattle.wesl_json_print_nodes.proofs.attribute.print_each.Given as goal

abbrev pub invariant-loop-attribute : goal.invariant-loop-attribute
invariant-loop-attribute g l = AreNodesBefore l.spans l.names an_attribute (placed attribute_view attribute_node) g.S.Sink.after l.attribute-items l.initial.out l.out l.attribute-index
