use Rattle.wesl_tree_syntax.specs.View.{clause_view, else_if_view, statement_tree}
use Rattle.wesl_visit_collect.proofs.Adds.{Walked}
use Rattle.wesl_visit_collect.proofs.collect.statement.+collecting_statements.Given as goal

abbrev pub invariant-at_statements-loop-node : goal.invariant-at_statements-loop-node
invariant-at_statements-loop-node g l = Walked g.T.Kind.sought g.T.Kind.view statement_tree l.initial.found l.node-items l.node-index l.found

abbrev pub invariant-in_else_ifs-loop-clause : goal.invariant-in_else_ifs-loop-clause
invariant-in_else_ifs-loop-clause g l = Walked g.T.Kind.sought g.T.Kind.view else_if_view l.initial.found l.clause-items l.clause-index l.found

abbrev pub invariant-in_clauses-loop-clause : goal.invariant-in_clauses-loop-clause
invariant-in_clauses-loop-clause g l = Walked g.T.Kind.sought g.T.Kind.view clause_view l.initial.found l.clause-items l.clause-index l.found
