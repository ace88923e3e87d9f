use Rattle.wesl_tree_syntax.specs.View.{parameter_view}
use Rattle.wesl_scope_occurrences.specs.Views.{here_view}
use Rattle.wesl_scope_occurrences.proofs.Steps.{Passed}
use Rattle.wesl_scope_occurrences.proofs.walk.Walk.parameters.Given as goal

abbrev pub invariant-loop-parameter : goal.invariant-loop-parameter
invariant-loop-parameter g l = Passed g.H.Handler.after parameter_view (here_view l.here) l.initial.self l.self l.parameter-items l.parameter-index
