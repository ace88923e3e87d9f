use Rattle.wesl_tree_syntax.specs.Tree.{import_node}
use Rattle.wesl_tree_syntax.specs.View.{import_view, placed}
use Rattle.wesl_tree_renumber.proofs.Listed.{SoFar}
use Rattle.wesl_tree_renumber.proofs.renumbering.Renumbering.imports.Given as goal

abbrev pub invariant-loop-import : goal.invariant-loop-import
invariant-loop-import l = SoFar (placed import_view import_node) l.fn.self l.self l.initial.import-items l.import-index l.import-items
