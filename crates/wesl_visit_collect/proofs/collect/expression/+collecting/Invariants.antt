use Rattle.wesl_tree_syntax.specs.View.{argument_view, expression_tree}
use Rattle.wesl_visit_collect.proofs.Adds.{Walked}
use Rattle.wesl_visit_collect.proofs.collect.expression.+collecting.Given as goal

abbrev pub invariant-at_expressions-loop-node : goal.invariant-at_expressions-loop-node
invariant-at_expressions-loop-node g l = Walked g.T.Kind.sought g.T.Kind.view expression_tree l.initial.found l.node-items l.node-index l.found

abbrev pub invariant-in_arguments-loop-argument : goal.invariant-in_arguments-loop-argument
invariant-in_arguments-loop-argument g l = Walked g.T.Kind.sought g.T.Kind.view argument_view l.initial.found l.argument-items l.argument-index l.found
