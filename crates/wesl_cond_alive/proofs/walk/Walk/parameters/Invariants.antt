use Rattle.std.proofs.Common.{drop, map}
use Rattle.wesl_tree_syntax.specs.View.{parameter_view}
use Rattle.wesl_cond_alive.specs.Walk.{listed}
use Rattle.wesl_cond_alive.specs.Views.{here_view, spot_view}
use Rattle.wesl_cond_alive.proofs.Steps.{Passed}
use Rattle.wesl_cond_alive.proofs.walk.Walk.parameters.Given as goal

abbrev pub invariant-loop-i : goal.invariant-loop-i
invariant-loop-i l = Passed (parameter_view) (spot_view l.here) (λ i. listed (drop i (map here_view l.places.items))) l.initial.self l.self l.all.items l.i
