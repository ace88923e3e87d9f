use Rattle.wesl_tree_syntax.specs.View.{entry_view}
use Rattle.wesl_json_form.specs.Schema.{an_entry}
use Rattle.wesl_json_print_nodes.proofs.Lists.{AreNodesBefore}
use Rattle.wesl_json_print.proofs.import.+printing.Given as goal

abbrev pub invariant-print_entries-loop-entry : goal.invariant-print_entries-loop-entry
invariant-print_entries-loop-entry g l = AreNodesBefore l.spans l.names an_entry entry_view g.S.Sink.after l.entry-items l.initial.out l.out l.entry-index
