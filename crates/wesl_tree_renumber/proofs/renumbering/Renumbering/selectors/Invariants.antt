use Rattle.wesl_tree_syntax.specs.View.{selector_view}
use Rattle.wesl_tree_renumber.proofs.Listed.{SoFar}
use Rattle.wesl_tree_renumber.proofs.renumbering.Renumbering.selectors.Given as goal

abbrev pub invariant-loop-selector : goal.invariant-loop-selector
invariant-loop-selector l = SoFar selector_view l.fn.self l.self l.initial.selector-items l.selector-index l.selector-items
