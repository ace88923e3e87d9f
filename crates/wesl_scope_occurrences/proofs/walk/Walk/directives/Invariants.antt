use Rattle.wesl_tree_syntax.specs.Tree.{directive_node}
use Rattle.wesl_tree_syntax.specs.View.{directive_view, placed}
use Rattle.wesl_scope_occurrences.specs.Views.{here_view}
use Rattle.wesl_scope_occurrences.proofs.Steps.{Passed}
use Rattle.wesl_scope_occurrences.proofs.walk.Walk.directives.Given as goal

abbrev pub invariant-loop-directive : goal.invariant-loop-directive
invariant-loop-directive g l = Passed g.H.Handler.after (placed directive_view directive_node) (here_view l.here) l.initial.self l.self l.directive-items l.directive-index
