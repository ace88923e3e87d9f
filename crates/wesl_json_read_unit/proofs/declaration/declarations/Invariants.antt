use Rattle.wesl_json_form.specs.Schema.{a_declaration}
use Rattle.wesl_tree_syntax.specs.Tree.{declaration_node, declarations}
use Rattle.wesl_tree_syntax.specs.View.{global_view, placed}
use Rattle.wesl_json_read.proofs.Noting.{NotesItems}
use Rattle.wesl_json_read_unit.proofs.declaration.declarations.Given as goal

abbrev pub invariant-loop-index : goal.invariant-loop-index
invariant-loop-index l = NotesItems (placed global_view declaration_node) declarations a_declaration l.items l.index l.declarations.items l.fn.reader l.reader
