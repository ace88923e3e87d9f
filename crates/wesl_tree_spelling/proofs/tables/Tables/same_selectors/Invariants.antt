use Rattle.wesl_tree_syntax.specs.View.{selector_view}
use Rattle.wesl_tree_spelling.proofs.Pairs.{Compared, all_same}
use Rattle.wesl_tree_spelling.proofs.tables.Tables.same_selectors.Given as goal

abbrev pub invariant-loop-i : goal.invariant-loop-i
invariant-loop-i l = Compared (all_same selector_view l.self) l.left l.right l.i
