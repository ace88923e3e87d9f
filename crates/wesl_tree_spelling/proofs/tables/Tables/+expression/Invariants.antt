use Rattle.wesl_tree_syntax.specs.View.{argument_view, expression_tree}
use Rattle.wesl_tree_spelling.proofs.Pairs.{Compared, all_same}
use Rattle.wesl_tree_spelling.proofs.tables.Tables.+expression.Given as goal

abbrev pub invariant-same_nodes-loop-i : goal.invariant-same_nodes-loop-i
invariant-same_nodes-loop-i l = Compared (all_same expression_tree l.self) l.left l.right l.i

abbrev pub invariant-same_arguments-loop-i : goal.invariant-same_arguments-loop-i
invariant-same_arguments-loop-i l = Compared (all_same argument_view l.self) l.left l.right l.i
