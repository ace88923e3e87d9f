use Rattle.wesl_tree_syntax.specs.View.{entry_view}
use Rattle.wesl_scope_occurrences.specs.Views.{here_view}
use Rattle.wesl_scope_occurrences.proofs.Steps.{Passed}
use Rattle.wesl_scope_occurrences.proofs.walk.Walk.+imports.Given as goal

abbrev pub invariant-entries-loop-entry : goal.invariant-entries-loop-entry
invariant-entries-loop-entry g l = Passed g.H.Handler.after entry_view (here_view l.here) l.initial.self l.self l.entry-items l.entry-index
