use Rattle.wesl_tree_syntax.specs.View.{parameter_view}
use Rattle.wesl_tree_renumber.proofs.Listed.{SoFar}
use Rattle.wesl_tree_renumber.proofs.renumbering.Renumbering.parameters.Given as goal

abbrev pub invariant-loop-parameter : goal.invariant-loop-parameter
invariant-loop-parameter l = SoFar parameter_view l.fn.self l.self l.initial.parameter-items l.parameter-index l.parameter-items
