use Rattle.wesl_tree_base.specs.declared.span.Span.{Span}
use Rattle.wesl_tree_syntax.specs.View.{argument_view, expression_tree}
use Rattle.wesl_scope_spans.proofs.Stepped.{Walked}
use Rattle.wesl_scope_spans.proofs.expressions.+expressions.Given as goal

abbrev pub invariant-in_nodes-loop-node : goal.invariant-in_nodes-loop-node
invariant-in_nodes-loop-node l = (s : Span) → Walked expression_tree s l.initial.places l.node-items l.node-index l.places

abbrev pub invariant-in_arguments-loop-argument : goal.invariant-in_arguments-loop-argument
invariant-in_arguments-loop-argument l = (s : Span) → Walked argument_view s l.initial.places l.argument-items l.argument-index l.places
