use Rattle.wesl_tree_syntax.specs.View.{entry_view}
use Rattle.wesl_scope_words.proofs.Steps.{Walked}
use Rattle.wesl_scope_words.proofs.declarations.+imports.Given as goal

abbrev pub invariant-in_entries-loop-entry : goal.invariant-in_entries-loop-entry
invariant-in_entries-loop-entry l = Walked entry_view l.initial.names l.entry-items l.entry-index l.names
