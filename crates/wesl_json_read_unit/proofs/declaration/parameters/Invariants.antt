use Rattle.wesl_json_form.specs.Schema.{a_parameter}
use Rattle.wesl_tree_syntax.specs.Tree.{parameters}
use Rattle.wesl_tree_syntax.specs.View.{parameter_view}
use Rattle.wesl_json_read.proofs.Noting.{NotesItems}
use Rattle.wesl_json_read_unit.proofs.declaration.parameters.Given as goal

abbrev pub invariant-loop-index : goal.invariant-loop-index
invariant-loop-index l = NotesItems parameter_view parameters a_parameter l.items l.index l.parameters.items l.fn.reader l.reader
