use Rattle.std.proofs.Common.{subst}
use Rattle.std.specs.Prelude.{IfSome, IfNone}
use Rattle.std.specs.List.{All}
use Rattle.wesl_tree.specs.Translation.{unit_view}
use Rattle.wesl_validate_builtins.specs.Builtins.{builtins_view}
use Rattle.wesl_validate_calls.specs.Misfits.{Passes, MissesAmong}
use Rattle.wesl_validate_calls.proofs.fitting.misfit_in.Goals as goal

pub returns-clause-misfit : goal.returns-clause-misfit
returns-clause-misfit c =
    subst (λ cs. IfSome c.misfit_among.result (MissesAmong (unit_view c.args.unit.now) (builtins_view c.args.callables.now.builtins.now) cs)) c.in_ok-calls.ensures.calls c.misfit_among.ensures.misfit

pub returns-clause-none : goal.returns-clause-none
returns-clause-none c =
    subst (λ cs. IfNone c.misfit_among.result (All (Passes (unit_view c.args.unit.now) (builtins_view c.args.callables.now.builtins.now)) cs)) c.in_ok-calls.ensures.calls c.misfit_among.ensures.none
