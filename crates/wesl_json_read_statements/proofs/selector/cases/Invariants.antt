use Rattle.wesl_json_form.specs.Schema.{a_case}
use Rattle.wesl_tree_syntax.specs.Tree.{list}
use Rattle.wesl_tree_syntax.specs.View.{selector_view}
use Rattle.wesl_json_read.proofs.Noting.{NotesItems}
use Rattle.wesl_json_read_statements.proofs.selector.cases.Given as goal

abbrev pub invariant-loop-index : goal.invariant-loop-index
invariant-loop-index l = NotesItems selector_view list a_case l.items l.index l.cases.items l.fn.reader l.reader
