use Rattle.wesl_tree_syntax.specs.View.{entry_view}
use Rattle.wesl_scope_spans.proofs.Stepped.{Walked}
use Rattle.wesl_scope_spans.proofs.imports.+imports.Given as goal

abbrev pub invariant-in_entries-loop-entry : goal.invariant-in_entries-loop-entry
invariant-in_entries-loop-entry l = Walked entry_view l.round l.initial.places l.entry-items l.entry-index l.places
