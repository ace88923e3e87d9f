use Rattle.wesl_tree_syntax.specs.View.{selector_view}
use Rattle.wesl_tree_copies.proofs.Listed.{SoFar}
use Rattle.wesl_tree_copies.proofs.copying.Copying.selectors.Given as goal

abbrev pub invariant-loop-selector : goal.invariant-loop-selector
invariant-loop-selector l = SoFar selector_view selector_view l.fn.self l.self l.selector-items l.selector-index l.copies.items
