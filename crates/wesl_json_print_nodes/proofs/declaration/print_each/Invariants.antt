use Rattle.wesl_tree_syntax.specs.Tree.{declaration_node}
use Rattle.wesl_tree_syntax.specs.View.{global_view, placed}
use Rattle.wesl_json_form.specs.Schema.{a_declaration}
use Rattle.wesl_json_print_nodes.proofs.Lists.{AreNodesBefore}
use Rattle.wesl_json_print_nodes.proofs.declaration.print_each.Given as goal

abbrev pub invariant-loop-declaration : goal.invariant-loop-declaration
invariant-loop-declaration g l = AreNodesBefore l.spans l.names a_declaration (placed global_view declaration_node) g.S.Sink.after l.declaration-items l.initial.out l.out l.declaration-index
