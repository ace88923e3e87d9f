use Rattle.wesl_tree_syntax.specs.View.{parameter_view}
use Rattle.wesl_visit_collect.proofs.Adds.{Walked}
use Rattle.wesl_visit_collect.proofs.collect.declaration.in_function.Given as goal

abbrev pub invariant-loop-parameter : goal.invariant-loop-parameter
invariant-loop-parameter g l = Walked g.T.Kind.sought g.T.Kind.view parameter_view l.initial.found l.parameter-items l.parameter-index l.found
