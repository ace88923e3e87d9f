use Rattle.std.proofs.Common.{◌≡◌, drop}
use Rattle.wesl_tree_syntax.specs.Tree.{declaration_node}
use Rattle.wesl_tree_syntax.specs.View.{global_view, placed}
use Rattle.wesl_tree_bounds.proofs.Below.{all_below}
use Rattle.wesl_tree_bounds.proofs.statement_bounds.declarations_are_below.Given as goal

abbrev pub invariant-loop-declaration : goal.invariant-loop-declaration
invariant-loop-declaration l =
    all_below (placed global_view declaration_node) l.bound l.declaration-items ≡ all_below (placed global_view declaration_node) l.bound (drop l.declaration-index l.declaration-items)
