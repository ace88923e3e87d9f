use Rattle.wesl_json_form.specs.Schema.{a_directive}
use Rattle.wesl_tree_syntax.specs.Tree.{directive_list, directive_node}
use Rattle.wesl_tree_syntax.specs.View.{directive_view, placed}
use Rattle.wesl_json_read.proofs.Noting.{NotesItems}
use Rattle.wesl_json_read_unit.proofs.directive.directives.Given as goal

abbrev pub invariant-loop-index : goal.invariant-loop-index
invariant-loop-index l = NotesItems (placed directive_view directive_node) directive_list a_directive l.items l.index l.directives.items l.fn.reader l.reader
