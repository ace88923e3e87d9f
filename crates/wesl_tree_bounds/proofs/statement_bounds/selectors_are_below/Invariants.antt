use Rattle.std.proofs.Common.{◌≡◌, drop}
use Rattle.wesl_tree_syntax.specs.View.{selector_view}
use Rattle.wesl_tree_bounds.proofs.Below.{all_below}
use Rattle.wesl_tree_bounds.proofs.statement_bounds.selectors_are_below.Given as goal

abbrev pub invariant-loop-selector : goal.invariant-loop-selector
invariant-loop-selector l =
    all_below (selector_view) l.bound l.selector-items ≡ all_below (selector_view) l.bound (drop l.selector-index l.selector-items)
