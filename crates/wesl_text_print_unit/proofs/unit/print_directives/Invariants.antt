use Rattle.wesl_text_print.proofs.Lists.{AreBefore, node_slots}
use Rattle.wesl_text_form.specs.Productions.{a_directive}
use Rattle.wesl_tree_syntax.specs.Tree.{directive_node}
use Rattle.wesl_tree_syntax.specs.View.{directive_view, placed}
use Rattle.wesl_text_print_unit.proofs.unit.print_directives.Given as goal

abbrev pub invariant-loop-directive : goal.invariant-loop-directive
invariant-loop-directive g l = AreBefore (node_slots l.names a_directive (placed directive_view directive_node)) g.S.TokenSink.after l.directive-items l.initial.out l.out l.directive-index
