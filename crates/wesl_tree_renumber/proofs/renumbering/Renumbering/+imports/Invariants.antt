use Rattle.wesl_tree_syntax.specs.View.{entry_view}
use Rattle.wesl_tree_renumber.proofs.Listed.{SoFar}
use Rattle.wesl_tree_renumber.proofs.renumbering.Renumbering.+imports.Given as goal

abbrev pub invariant-entries-loop-entry : goal.invariant-entries-loop-entry
invariant-entries-loop-entry l = goal.unvisited-entries-loop-entry l × SoFar entry_view l.fn.self l.self l.initial.entry-items l.entry-index l.entry-items
