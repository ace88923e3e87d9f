use Rattle.wesl_tree_syntax.specs.View.{selector_view}
use Rattle.wesl_json_form.specs.Schema.{a_case}
use Rattle.wesl_json_print_nodes.proofs.Lists.{AreNodesBefore}
use Rattle.wesl_json_print_nodes.proofs.statement.print_each_case.Given as goal

abbrev pub invariant-loop-selector : goal.invariant-loop-selector
invariant-loop-selector g l = AreNodesBefore l.spans l.names a_case selector_view g.S.Sink.after l.selector-items l.initial.out l.out l.selector-index
