use Rattle.std.proofs.Common.{refl, sym, ◌∙◌}
use Rattle.wesl_tree_syntax.specs.Tree.{expression_node}
use Rattle.wesl_tree_syntax.specs.View.{argument_view, expression_view, placed}
use Rattle.wesl_tree_bounds.proofs.Below.{end_below, next_below, not_below, placed_below}
use Rattle.wesl_tree_bounds.proofs.Views.{argument_below}
use Rattle.wesl_tree_bounds.proofs.bounds.+bounds.Goals as goal

pub nodes_are_below-loop-node-init : goal.nodes_are_below-loop-node-init
nodes_are_below-loop-node-init t c = refl

pub nodes_are_below-loop-node-preserved : goal.nodes_are_below-loop-node-preserved
nodes_are_below-loop-node-preserved t c =
    next_below (placed expression_view expression_node) c.args.bound c.deref-node-items.result.now c.loop-node.node-index c.node-item.result c.loop-node-test.true c.node-item.is (placed_below expression_view expression_node c.args.bound c.node-item.result ∙ sym c.expression_is_below.ensures ∙ c.if-not-expression_is_below.false) c.loop-node.invariant

pub nodes_are_below-returns-then-not-expression_is_below : goal.nodes_are_below-returns-then-not-expression_is_below
nodes_are_below-returns-then-not-expression_is_below t c =
    not_below (placed expression_view expression_node) c.args.bound c.deref-node-items.result.now c.args.nodes.now.items c.loop-node.node-index c.node-item.result c.loop-node-test.true c.node-item.is c.deref-node-items.ensures.value (placed_below expression_view expression_node c.args.bound c.node-item.result ∙ sym c.expression_is_below.ensures ∙ c.if-not-expression_is_below.true) c.loop-node.invariant

pub nodes_are_below-returns : goal.nodes_are_below-returns
nodes_are_below-returns t c =
    end_below (placed expression_view expression_node) c.args.bound c.deref-node-items.result.now c.args.nodes.now.items c.loop-node.node-index c.loop-node-test.false c.deref-node-items.ensures.value c.loop-node.invariant

pub arguments_are_below-loop-argument-init : goal.arguments_are_below-loop-argument-init
arguments_are_below-loop-argument-init t c = refl

pub arguments_are_below-loop-argument-preserved : goal.arguments_are_below-loop-argument-preserved
arguments_are_below-loop-argument-preserved t c =
    next_below argument_view c.args.bound c.deref-argument-items.result.now c.loop-argument.argument-index c.argument-item.result c.loop-argument-test.true c.argument-item.is (argument_below c.args.bound c.argument-item.result ∙ sym c.node_is_below.ensures ∙ c.if-not-node_is_below.false) c.loop-argument.invariant

pub arguments_are_below-returns-then-not-node_is_below : goal.arguments_are_below-returns-then-not-node_is_below
arguments_are_below-returns-then-not-node_is_below t c =
    not_below argument_view c.args.bound c.deref-argument-items.result.now c.args.arguments.now.items c.loop-argument.argument-index c.argument-item.result c.loop-argument-test.true c.argument-item.is c.deref-argument-items.ensures.value (argument_below c.args.bound c.argument-item.result ∙ sym c.node_is_below.ensures ∙ c.if-not-node_is_below.true) c.loop-argument.invariant

pub arguments_are_below-returns : goal.arguments_are_below-returns
arguments_are_below-returns t c =
    end_below argument_view c.args.bound c.deref-argument-items.result.now c.args.arguments.now.items c.loop-argument.argument-index c.loop-argument-test.false c.deref-argument-items.ensures.value c.loop-argument.invariant
