use Rattle.wesl_tree_syntax.specs.Tree.{declaration_node}
use Rattle.wesl_tree_syntax.specs.View.{global_view, placed}
use Rattle.wesl_scope_words.proofs.Steps.{Walked}
use Rattle.wesl_scope_words.proofs.declarations.in_declarations.Given as goal

abbrev pub invariant-loop-declaration : goal.invariant-loop-declaration
invariant-loop-declaration l = Walked (placed global_view declaration_node) l.initial.names l.declaration-items l.declaration-index l.names
