use Rattle.wesl_text_print.proofs.Lists.{AreBefore, node_slots}
use Rattle.wesl_text_form.specs.Productions.{a_declaration}
use Rattle.wesl_tree_syntax.specs.Tree.{declaration_node}
use Rattle.wesl_tree_syntax.specs.View.{global_view, placed}
use Rattle.wesl_text_print_unit.proofs.unit.print_declarations.Given as goal

abbrev pub invariant-loop-declaration : goal.invariant-loop-declaration
invariant-loop-declaration g l = AreBefore (node_slots l.names a_declaration (placed global_view declaration_node)) g.S.TokenSink.after l.declaration-items l.initial.out l.out l.declaration-index
