use Rattle.wesl_tree_syntax.specs.View.{clause_view, else_if_view, statement_tree}
use Rattle.wesl_scope_words.proofs.Steps.{Walked}
use Rattle.wesl_scope_words.proofs.statements.+statements.Given as goal

abbrev pub invariant-in_statements-loop-node : goal.invariant-in_statements-loop-node
invariant-in_statements-loop-node l = Walked statement_tree l.initial.names l.node-items l.node-index l.names

abbrev pub invariant-in_else_ifs-loop-clause : goal.invariant-in_else_ifs-loop-clause
invariant-in_else_ifs-loop-clause l = Walked else_if_view l.initial.names l.clause-items l.clause-index l.names

abbrev pub invariant-in_clauses-loop-clause : goal.invariant-in_clauses-loop-clause
invariant-in_clauses-loop-clause l = Walked clause_view l.initial.names l.clause-items l.clause-index l.names
