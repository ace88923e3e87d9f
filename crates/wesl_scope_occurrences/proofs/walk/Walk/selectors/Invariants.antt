use Rattle.wesl_tree_syntax.specs.View.{selector_view}
use Rattle.wesl_scope_occurrences.specs.Views.{here_view}
use Rattle.wesl_scope_occurrences.proofs.Steps.{Passed}
use Rattle.wesl_scope_occurrences.proofs.walk.Walk.selectors.Given as goal

abbrev pub invariant-loop-selector : goal.invariant-loop-selector
invariant-loop-selector g l = Passed g.H.Handler.after selector_view (here_view l.here) l.initial.self l.self l.selector-items l.selector-index
