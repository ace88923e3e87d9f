use Rattle.wesl_text_guard.specs.Guards.{as_it_is, as_item}
use Rattle.wesl_tree_syntax.specs.View.{clause_view, else_if_view, statement_tree}
use Rattle.wesl_text_guard.proofs.Listed.{SoFar}
use Rattle.wesl_text_guard.proofs.guard.Guard.+statements.Given as goal

abbrev pub invariant-statements-loop-node : goal.invariant-statements-loop-node
invariant-statements-loop-node l = goal.unvisited-statements-loop-node l × SoFar as_it_is statement_tree l.fn.self l.self l.initial.node-items l.node-index l.node-items

abbrev pub invariant-else_if_clauses-loop-clause : goal.invariant-else_if_clauses-loop-clause
invariant-else_if_clauses-loop-clause l = goal.unvisited-else_if_clauses-loop-clause l × SoFar as_item else_if_view l.fn.self l.self l.initial.clause-items l.clause-index l.clause-items

abbrev pub invariant-clauses-loop-clause : goal.invariant-clauses-loop-clause
invariant-clauses-loop-clause l = goal.unvisited-clauses-loop-clause l × SoFar as_it_is clause_view l.fn.self l.self l.initial.clause-items l.clause-index l.clause-items
