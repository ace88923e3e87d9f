use Rattle.std.proofs.Common.{◌≡◌, drop}
use Rattle.wesl_tree_syntax.specs.View.{entry_view}
use Rattle.wesl_tree_bounds.proofs.Below.{all_below}
use Rattle.wesl_tree_bounds.proofs.parts_bounds.+import_bounds.Given as goal

abbrev pub invariant-entries_are_below-loop-entry : goal.invariant-entries_are_below-loop-entry
invariant-entries_are_below-loop-entry l =
    all_below (entry_view) l.bound l.entry-items ≡ all_below (entry_view) l.bound (drop l.entry-index l.entry-items)
