use Rattle.wesl_text_guard.specs.Guards.{as_it_is}
use Rattle.wesl_tree_syntax.specs.Tree.{declaration_node}
use Rattle.wesl_tree_syntax.specs.View.{global_view, placed}
use Rattle.wesl_text_guard.proofs.Listed.{SoFar}
use Rattle.wesl_text_guard.proofs.guard.Guard.globals.Given as goal

abbrev pub invariant-loop-declaration : goal.invariant-loop-declaration
invariant-loop-declaration l = SoFar as_it_is (placed global_view declaration_node) l.fn.self l.self l.initial.declaration-items l.declaration-index l.declaration-items
