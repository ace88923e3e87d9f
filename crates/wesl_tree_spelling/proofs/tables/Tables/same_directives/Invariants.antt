use Rattle.wesl_tree_syntax.specs.Tree.{directive_node}
use Rattle.wesl_tree_syntax.specs.View.{directive_view, placed}
use Rattle.wesl_tree_spelling.proofs.Pairs.{Compared, all_same}
use Rattle.wesl_tree_spelling.proofs.tables.Tables.same_directives.Given as goal

abbrev pub invariant-loop-i : goal.invariant-loop-i
invariant-loop-i l = Compared (all_same (placed directive_view directive_node) l.self) l.left l.right l.i
