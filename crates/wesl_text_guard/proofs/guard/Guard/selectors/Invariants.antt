use Rattle.wesl_text_guard.specs.Guards.{as_item}
use Rattle.wesl_tree_syntax.specs.View.{selector_view}
use Rattle.wesl_text_guard.proofs.Listed.{SoFar}
use Rattle.wesl_text_guard.proofs.guard.Guard.selectors.Given as goal

abbrev pub invariant-loop-selector : goal.invariant-loop-selector
invariant-loop-selector l = SoFar as_item selector_view l.fn.self l.self l.initial.selector-items l.selector-index l.selector-items
