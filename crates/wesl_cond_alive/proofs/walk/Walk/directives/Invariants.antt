use Rattle.std.proofs.Common.{drop, map}
use Rattle.wesl_tree_syntax.specs.Tree.{directive_node}
use Rattle.wesl_tree_syntax.specs.View.{directive_view, placed}
use Rattle.wesl_cond_alive.specs.Walk.{listed, in_set, all_choices}
use Rattle.wesl_cond_alive.specs.Views.{here_view}
use Rattle.wesl_cond_alive.proofs.Steps.{Passed}
use Rattle.wesl_cond_alive.proofs.walk.Walk.directives.Given as goal

abbrev pub invariant-loop-i : goal.invariant-loop-i
invariant-loop-i l = Passed (placed directive_view directive_node) (in_set all_choices) (λ i. listed (drop i (map here_view l.places.items))) l.initial.self l.self l.all.items l.i
