use Rattle.std.proofs.Common.{◌+◌, ◌*◌}
use Rattle.wesl_tree_syntax.specs.View.{entry_view}
use Rattle.wesl_text_tokens.specs.declared.symbol.Symbol.TheVariants as is
use Rattle.wesl_text_form.specs.Productions.{an_entry}
use Rattle.wesl_text_read_imports.proofs.Closed.{Items}
use Rattle.wesl_text_read_imports.proofs.import.+contents.Given as goal

abbrev pub decreases-entry : goal.decreases-entry
decreases-entry l = 4 * l.reader.now.levels

abbrev pub decreases-entries : goal.decreases-entries
decreases-entries l = 4 * l.reader.now.levels + 1

abbrev pub decreases-collection : goal.decreases-collection
decreases-collection l = 4 * l.reader.now.levels + 2

abbrev pub decreases-content : goal.decreases-content
decreases-content l = 4 * l.reader.now.levels + 3

abbrev pub invariant-entries-entries : goal.invariant-entries-entries
invariant-entries-entries l = Items entry_view an_entry is.BraceRight l.goes_on l.room l.entries.items l.fn.reader l.reader

abbrev pub decreases-entries-entries : goal.decreases-entries-entries
decreases-entries-entries l = l.room
