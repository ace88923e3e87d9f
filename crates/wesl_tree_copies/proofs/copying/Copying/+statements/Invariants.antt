use Rattle.wesl_tree_syntax.specs.View.{clause_view, else_if_view, statement_tree}
use Rattle.wesl_tree_copies.proofs.Listed.{SoFar}
use Rattle.wesl_tree_copies.proofs.copying.Copying.+statements.Given as goal

abbrev pub invariant-statements-loop-node : goal.invariant-statements-loop-node
invariant-statements-loop-node l = SoFar statement_tree statement_tree l.fn.self l.self l.node-items l.node-index l.copies.items

abbrev pub invariant-else_if_clauses-loop-clause : goal.invariant-else_if_clauses-loop-clause
invariant-else_if_clauses-loop-clause l = SoFar else_if_view else_if_view l.fn.self l.self l.clause-items l.clause-index l.copies.items

abbrev pub invariant-clauses-loop-clause : goal.invariant-clauses-loop-clause
invariant-clauses-loop-clause l = SoFar clause_view clause_view l.fn.self l.self l.clause-items l.clause-index l.copies.items
