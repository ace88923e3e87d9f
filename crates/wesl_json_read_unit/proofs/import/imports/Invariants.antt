use Rattle.wesl_json_form.specs.Schema.{an_import}
use Rattle.wesl_tree_syntax.specs.Tree.{import_node, imports}
use Rattle.wesl_tree_syntax.specs.View.{import_view, placed}
use Rattle.wesl_json_read.proofs.Noting.{NotesItems}
use Rattle.wesl_json_read_unit.proofs.import.imports.Given as goal

abbrev pub invariant-loop-index : goal.invariant-loop-index
invariant-loop-index l = NotesItems (placed import_view import_node) imports an_import l.items l.index l.imports.items l.fn.reader l.reader
