use Rattle.wesl_tree_syntax.specs.View.{argument_view, expression_tree}
use Rattle.wesl_tree_renumber.proofs.Listed.{SoFar}
use Rattle.wesl_tree_renumber.proofs.renumbering.Renumbering.+expressions.Given as goal

abbrev pub invariant-nodes-loop-node : goal.invariant-nodes-loop-node
invariant-nodes-loop-node l = goal.unvisited-nodes-loop-node l × SoFar expression_tree l.fn.self l.self l.initial.node-items l.node-index l.node-items

abbrev pub invariant-arguments-loop-argument : goal.invariant-arguments-loop-argument
invariant-arguments-loop-argument l = goal.unvisited-arguments-loop-argument l × SoFar argument_view l.fn.self l.self l.initial.argument-items l.argument-index l.argument-items
