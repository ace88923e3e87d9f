use Rattle.wesl_tree_syntax.specs.View.{clause_view, else_if_view, statement_tree}
use Rattle.wesl_tree_spelling.proofs.Pairs.{Compared, all_same}
use Rattle.wesl_tree_spelling.proofs.tables.Tables.+statement.Given as goal

abbrev pub invariant-same_statements-loop-i : goal.invariant-same_statements-loop-i
invariant-same_statements-loop-i l = Compared (all_same statement_tree l.self) l.left l.right l.i

abbrev pub invariant-same_else_ifs-loop-i : goal.invariant-same_else_ifs-loop-i
invariant-same_else_ifs-loop-i l = Compared (all_same else_if_view l.self) l.left l.right l.i

abbrev pub invariant-same_clauses-loop-i : goal.invariant-same_clauses-loop-i
invariant-same_clauses-loop-i l = Compared (all_same clause_view l.self) l.left l.right l.i
