use Rattle.wesl_tree_syntax.specs.View.{parameter_view}
use Rattle.wesl_scope_words.proofs.Steps.{Walked}
use Rattle.wesl_scope_words.proofs.declarations.in_parameters.Given as goal

abbrev pub invariant-loop-parameter : goal.invariant-loop-parameter
invariant-loop-parameter l = Walked parameter_view l.initial.names l._parameter-items l._parameter-index l.names
