use Rattle.wesl_text_guard.specs.Guards.{as_it_is}
use Rattle.wesl_tree_syntax.specs.Tree.{directive_node}
use Rattle.wesl_tree_syntax.specs.View.{directive_view, placed}
use Rattle.wesl_text_guard.proofs.Listed.{SoFar}
use Rattle.wesl_text_guard.proofs.guard.Guard.directives.Given as goal

abbrev pub invariant-loop-directive : goal.invariant-loop-directive
invariant-loop-directive l = SoFar as_it_is (placed directive_view directive_node) l.fn.self l.self l.initial.directive-items l.directive-index l.directive-items
