use Rattle.serde_json.specs.Data.{depth}
use Rattle.wesl_json_form.specs.View.{borrowed_view}
use Rattle.std.proofs.Common.{◌*◌, ◌+◌}
use Rattle.wesl_json_form.specs.Schema.{an_entry}
use Rattle.wesl_tree_syntax.specs.Tree.{list}
use Rattle.wesl_tree_syntax.specs.View.{entry_view}
use Rattle.wesl_json_read.proofs.Noting.{NotesItems}
use Rattle.wesl_json_read_unit.proofs.import.+contents.Given as goal

abbrev pub decreases-content_member : goal.decreases-content_member
decreases-content_member l = 10 * depth (borrowed_view l.value.now) + 3

abbrev pub decreases-content : goal.decreases-content
decreases-content l = 10 * depth (borrowed_view l.value.now) + 9

abbrev pub decreases-entries : goal.decreases-entries
decreases-entries l = 10 * depth (borrowed_view l.value.now) + 8

abbrev pub decreases-entry : goal.decreases-entry
decreases-entry l = 10 * depth (borrowed_view l.value.now) + 7

abbrev pub invariant-entries-loop-index : goal.invariant-entries-loop-index
invariant-entries-loop-index l = NotesItems entry_view list an_entry l.items l.index l.entries.items l.fn.reader l.reader
