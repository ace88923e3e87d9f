use Rattle.wesl_text_guard.specs.Guards.{as_item}
use Rattle.wesl_tree_syntax.specs.View.{argument_view, expression_tree}
use Rattle.wesl_text_guard.proofs.Listed.{SoFar}
use Rattle.wesl_text_guard.proofs.guard.Guard.+expressions.Given as goal

abbrev pub invariant-items-loop-node : goal.invariant-items-loop-node
invariant-items-loop-node l = goal.unvisited-items-loop-node l × SoFar as_item expression_tree l.fn.self l.self l.initial.node-items l.node-index l.node-items

abbrev pub invariant-arguments-loop-argument : goal.invariant-arguments-loop-argument
invariant-arguments-loop-argument l = goal.unvisited-arguments-loop-argument l × SoFar as_item argument_view l.fn.self l.self l.initial.argument-items l.argument-index l.argument-items
