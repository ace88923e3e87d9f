use Rattle.wesl_tree_syntax.specs.Tree.{import_node}
use Rattle.wesl_tree_syntax.specs.View.{import_view, placed}
use Rattle.wesl_scope_words.proofs.Steps.{Walked}
use Rattle.wesl_scope_words.proofs.declarations.in_imports.Given as goal

abbrev pub invariant-loop-import : goal.invariant-loop-import
invariant-loop-import l = Walked (placed import_view import_node) l.initial.names l.import-items l.import-index l.names
