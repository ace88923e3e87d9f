use Rattle.std.proofs.Common.{[]}
use Rattle.wesl_tree_syntax.specs.View.{selector_view}
use Rattle.wesl_cond_alive.specs.Walk.{listed}
use Rattle.wesl_cond_alive.specs.Views.{spot_view}
use Rattle.wesl_cond_alive.proofs.Steps.{Passed}
use Rattle.wesl_cond_alive.proofs.walk.Walk.selectors.Given as goal

abbrev pub invariant-loop-selector : goal.invariant-loop-selector
invariant-loop-selector l = Passed selector_view (spot_view l.here) (λ i. listed []) l.initial.self l.self l.selector-items l.selector-index
