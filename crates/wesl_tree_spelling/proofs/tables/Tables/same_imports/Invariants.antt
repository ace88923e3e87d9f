use Rattle.wesl_tree_syntax.specs.Tree.{import_node}
use Rattle.wesl_tree_syntax.specs.View.{import_view, placed}
use Rattle.wesl_tree_spelling.proofs.Pairs.{Compared, all_same}
use Rattle.wesl_tree_spelling.proofs.tables.Tables.same_imports.Given as goal

abbrev pub invariant-loop-i : goal.invariant-loop-i
invariant-loop-i l = Compared (all_same (placed import_view import_node) l.self) l.left l.right l.i
