use Rattle.wesl_tree_syntax.specs.Tree.{import_node}
use Rattle.wesl_tree_syntax.specs.View.{import_view, placed}
use Rattle.wesl_visit_collect.proofs.Adds.{Walked}
use Rattle.wesl_visit_collect.proofs.collect.declaration.in_imports.Given as goal

abbrev pub invariant-loop-import : goal.invariant-loop-import
invariant-loop-import g l = Walked g.T.Kind.sought g.T.Kind.view (placed import_view import_node) l.initial.found l.import-items l.import-index l.found
