use Rattle.std.proofs.Common.{◌≡◌, drop}
use Rattle.wesl_tree_syntax.specs.View.{argument_view, expression_tree}
use Rattle.wesl_tree_bounds.proofs.Below.{all_below}
use Rattle.wesl_tree_bounds.proofs.bounds.+bounds.Given as goal

abbrev pub invariant-arguments_are_below-loop-argument : goal.invariant-arguments_are_below-loop-argument
invariant-arguments_are_below-loop-argument l =
    all_below argument_view l.bound l.argument-items ≡ all_below argument_view l.bound (drop l.argument-index l.argument-items)

abbrev pub invariant-nodes_are_below-loop-node : goal.invariant-nodes_are_below-loop-node
invariant-nodes_are_below-loop-node l =
    all_below expression_tree l.bound l.node-items ≡ all_below expression_tree l.bound (drop l.node-index l.node-items)
