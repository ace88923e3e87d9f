use Rattle.wesl_json_form.specs.Schema.{a_member}
use Rattle.wesl_tree_syntax.specs.Tree.{member_node, members}
use Rattle.wesl_tree_syntax.specs.View.{member_view, placed}
use Rattle.wesl_json_read.proofs.Noting.{NotesItems}
use Rattle.wesl_json_read_unit.proofs.declaration.members.Given as goal

abbrev pub invariant-loop-index : goal.invariant-loop-index
invariant-loop-index l = NotesItems (placed member_view member_node) members a_member l.items l.index l.members.items l.fn.reader l.reader
