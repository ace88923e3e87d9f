use Rattle.wesl_tree_base.specs.declared.span.Span.{Span}
use Rattle.wesl_tree_syntax.specs.View.{clause_view, else_if_view, statement_tree}
use Rattle.wesl_scope_spans.proofs.Stepped.{Walked}
use Rattle.wesl_scope_spans.proofs.statements.+statements.Given as goal

abbrev pub invariant-in_statements-loop-node : goal.invariant-in_statements-loop-node
invariant-in_statements-loop-node l = (s : Span) → Walked statement_tree s l.initial.places l.node-items l.node-index l.places

abbrev pub invariant-in_else_ifs-loop-clause : goal.invariant-in_else_ifs-loop-clause
invariant-in_else_ifs-loop-clause l = (s : Span) → Walked else_if_view s l.initial.places l.clause-items l.clause-index l.places

abbrev pub invariant-in_clauses-loop-clause : goal.invariant-in_clauses-loop-clause
invariant-in_clauses-loop-clause l = (s : Span) → Walked clause_view s l.initial.places l.clause-items l.clause-index l.places
