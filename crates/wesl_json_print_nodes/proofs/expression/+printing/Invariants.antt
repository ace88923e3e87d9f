use Rattle.wesl_tree_syntax.specs.View.{argument_view, expression_tree}
use Rattle.wesl_json_form.specs.Schema.{a_template_argument, an_expression}
use Rattle.wesl_json_print_nodes.proofs.Lists.{AreNodesBefore}
use Rattle.wesl_json_print_nodes.proofs.expression.+printing.Given as goal

abbrev pub invariant-print_expressions-loop-node : goal.invariant-print_expressions-loop-node
invariant-print_expressions-loop-node g l = AreNodesBefore l.spans l.names an_expression expression_tree g.S.Sink.after l.node-items l.initial.out l.out l.node-index

abbrev pub invariant-print_type_arguments-loop-argument : goal.invariant-print_type_arguments-loop-argument
invariant-print_type_arguments-loop-argument g l = AreNodesBefore l.spans l.names a_template_argument argument_view g.S.Sink.after l.argument-items l.initial.out l.out l.argument-index
