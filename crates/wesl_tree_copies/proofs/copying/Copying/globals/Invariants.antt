use Rattle.wesl_tree_syntax.specs.Tree.{declaration_node}
use Rattle.wesl_tree_syntax.specs.View.{global_view, placed}
use Rattle.wesl_tree_copies.proofs.Listed.{SoFar}
use Rattle.wesl_tree_copies.proofs.copying.Copying.globals.Given as goal

abbrev pub invariant-loop-declaration : goal.invariant-loop-declaration
invariant-loop-declaration l = SoFar (placed global_view declaration_node) (placed global_view declaration_node) l.fn.self l.self l.declaration-items l.declaration-index l.copies.items
