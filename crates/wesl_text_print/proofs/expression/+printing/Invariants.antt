use Rattle.wesl_text_form.specs.Productions.{an_argument, an_expression}
use Rattle.wesl_tree_syntax.specs.View.{argument_view, expression_tree}
use Rattle.wesl_text_print.proofs.Lists.{AreCommasBefore, node_slots}
use Rattle.wesl_text_print.proofs.expression.+printing.Given as goal

abbrev pub invariant-print_expressions-loop-node : goal.invariant-print_expressions-loop-node
invariant-print_expressions-loop-node g l = AreCommasBefore (node_slots l.names an_expression expression_tree) g.S.TokenSink.after l.node-items l.initial.out l.out l.node-index l.is_first

abbrev pub invariant-print_template_arguments-loop-argument : goal.invariant-print_template_arguments-loop-argument
invariant-print_template_arguments-loop-argument g l = AreCommasBefore (node_slots l.names an_argument argument_view) g.S.TokenSink.after l.argument-items l.initial.out l.out l.argument-index l.is_first
