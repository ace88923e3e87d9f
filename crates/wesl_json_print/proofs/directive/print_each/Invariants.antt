use Rattle.wesl_tree_syntax.specs.Tree.{directive_node}
use Rattle.wesl_tree_syntax.specs.View.{directive_view, placed}
use Rattle.wesl_json_form.specs.Schema.{a_directive}
use Rattle.wesl_json_print_nodes.proofs.Lists.{AreNodesBefore}
use Rattle.wesl_json_print.proofs.directive.print_each.Given as goal

abbrev pub invariant-loop-directive : goal.invariant-loop-directive
invariant-loop-directive g l = AreNodesBefore l.spans l.names a_directive (placed directive_view directive_node) g.S.Sink.after l.directive-items l.initial.out l.out l.directive-index
