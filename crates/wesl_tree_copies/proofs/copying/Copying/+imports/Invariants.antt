use Rattle.wesl_tree_syntax.specs.View.{entry_view}
use Rattle.wesl_tree_copies.proofs.Listed.{SoFar}
use Rattle.wesl_tree_copies.proofs.copying.Copying.+imports.Given as goal

abbrev pub invariant-entries-loop-entry : goal.invariant-entries-loop-entry
invariant-entries-loop-entry l = SoFar entry_view entry_view l.fn.self l.self l.entry-items l.entry-index l.copies.items
