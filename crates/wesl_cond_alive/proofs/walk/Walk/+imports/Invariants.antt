use Rattle.wesl_tree_syntax.specs.View.{entry_view}
use Rattle.wesl_cond_alive.specs.Walk.{leaf}
use Rattle.wesl_cond_alive.specs.Views.{spot_view}
use Rattle.wesl_cond_alive.proofs.Steps.{Passed}
use Rattle.wesl_cond_alive.proofs.walk.Walk.+imports.Given as goal

abbrev pub invariant-entries-loop-entry : goal.invariant-entries-loop-entry
invariant-entries-loop-entry l = Passed entry_view (spot_view l.here) (λ i. leaf) l.initial.self l.self l.entry-items l.entry-index
