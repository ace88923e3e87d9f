use Rattle.wesl_tree_syntax.specs.Tree.{declaration_node}
use Rattle.wesl_tree_syntax.specs.View.{global_view, placed}
use Rattle.wesl_visit_collect.proofs.Adds.{Walked}
use Rattle.wesl_visit_collect.proofs.collect.declaration.in_declarations.Given as goal

abbrev pub invariant-loop-declaration : goal.invariant-loop-declaration
invariant-loop-declaration g l = Walked g.T.Kind.sought g.T.Kind.view (placed global_view declaration_node) l.initial.found l.declaration-items l.declaration-index l.found
