use Rattle.wesl_tree.specs.Translation.{unit_view}
use Rattle.wesl_validate_builtins.specs.Builtins.{builtins_view}
use Rattle.wesl_validate_calls.proofs.Gathering.{PassBefore}
use Rattle.wesl_validate_calls.proofs.fitting.misfit_of.Given as goal

abbrev pub invariant-loop-j : goal.invariant-loop-j
invariant-loop-j l = PassBefore (unit_view l.unit) (builtins_view l.callables.builtins.now) l.j
