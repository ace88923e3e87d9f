use Rattle.wesl_tree_syntax.specs.View.{parameter_view}
use Rattle.wesl_scope_spans.proofs.Stepped.{Walked}
use Rattle.wesl_scope_spans.proofs.declarations.in_parameters.Given as goal

abbrev pub invariant-loop-parameter : goal.invariant-loop-parameter
invariant-loop-parameter l = Walked parameter_view l.round l.initial.places l.parameter-items l.parameter-index l.places
