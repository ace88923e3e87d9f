use Rattle.wesl_text_print.proofs.Lists.{AreCommasBefore, node_slots}
use Rattle.wesl_text_form.specs.Productions.{an_entry}
use Rattle.wesl_tree_syntax.specs.View.{entry_view}
use Rattle.wesl_text_print_unit.proofs.import.+imports.Given as goal

abbrev pub invariant-print_entries-loop-entry : goal.invariant-print_entries-loop-entry
invariant-print_entries-loop-entry g l = AreCommasBefore (node_slots l.names an_entry entry_view) g.S.TokenSink.after l.entry-items l.initial.out l.out l.entry-index l.is_first
