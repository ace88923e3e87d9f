use Rattle.wesl_tree_syntax.specs.View.{entry_view}
use Rattle.wesl_tree_spelling.proofs.Pairs.{Compared, all_same}
use Rattle.wesl_tree_spelling.proofs.tables.Tables.+import.Given as goal

abbrev pub invariant-same_entries-loop-i : goal.invariant-same_entries-loop-i
invariant-same_entries-loop-i l = Compared (all_same entry_view l.self) l.left l.right l.i
