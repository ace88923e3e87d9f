use Rattle.wesl_tree_syntax.specs.View.{parameter_view}
use Rattle.wesl_json_form.specs.Schema.{a_parameter}
use Rattle.wesl_json_print_nodes.proofs.Lists.{AreNodesBefore}
use Rattle.wesl_json_print_nodes.proofs.declaration.print_each_parameter.Given as goal

abbrev pub invariant-loop-parameter : goal.invariant-loop-parameter
invariant-loop-parameter g l = AreNodesBefore l.spans l.names a_parameter parameter_view g.S.Sink.after l.parameter-items l.initial.out l.out l.parameter-index
