use Rattle.wesl_tree_syntax.specs.View.{parameter_view}
use Rattle.wesl_tree_copies.proofs.Listed.{SoFar}
use Rattle.wesl_tree_copies.proofs.copying.Copying.parameters.Given as goal

abbrev pub invariant-loop-parameter : goal.invariant-loop-parameter
invariant-loop-parameter l = SoFar parameter_view parameter_view l.fn.self l.self l.parameter-items l.parameter-index l.copies.items
