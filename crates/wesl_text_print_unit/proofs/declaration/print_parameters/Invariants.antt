use Rattle.wesl_text_print.proofs.Lists.{AreCommasBefore, node_slots}
use Rattle.wesl_text_form.specs.Productions.{a_parameter}
use Rattle.wesl_tree_syntax.specs.View.{parameter_view}
use Rattle.wesl_text_print_unit.proofs.declaration.print_parameters.Given as goal

abbrev pub invariant-loop-parameter : goal.invariant-loop-parameter
invariant-loop-parameter g l = AreCommasBefore (node_slots l.names a_parameter parameter_view) g.S.TokenSink.after l.parameter-items l.initial.out l.out l.parameter-index l.is_first
