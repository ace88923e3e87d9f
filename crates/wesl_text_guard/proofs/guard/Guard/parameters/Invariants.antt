use Rattle.wesl_text_guard.specs.Guards.{as_it_is}
use Rattle.wesl_tree_syntax.specs.View.{parameter_view}
use Rattle.wesl_text_guard.proofs.Listed.{SoFar}
use Rattle.wesl_text_guard.proofs.guard.Guard.parameters.Given as goal

abbrev pub invariant-loop-parameter : goal.invariant-loop-parameter
invariant-loop-parameter l = SoFar as_it_is parameter_view l.fn.self l.self l.initial.parameter-items l.parameter-index l.parameter-items
