use Rattle.std.proofs.Common.{subst}
use Rattle.std.specs.Prelude.{IfOk, IfSome, IfNone}
use Rattle.wesl_tree.specs.Translation.{unit_view}
use Rattle.wesl_validate_builtins.specs.Builtins.{builtins_view}
use Rattle.wesl_validate_rules.specs.Valid.{IsFitting}
use Rattle.wesl_validate_calls.specs.Misfits.{MissesIn}
use Rattle.wesl_validate_calls.proofs.fitting.first_misfit.Goals as goal

pub returns-clause-misfit : goal.returns-clause-misfit
returns-clause-misfit c =
    subst (λ b. IfOk c.misfit_of.result (λ r. IfSome r (λ p. MissesIn (unit_view c.args.unit.now) (builtins_view b) p.0 p.1))) c.in_ok-callables.ensures c.misfit_of.ensures.misfit

pub returns-clause-none : goal.returns-clause-none
returns-clause-none c =
    subst (λ b. IfOk c.misfit_of.result (λ r. IfNone r (IsFitting (unit_view c.args.unit.now) (builtins_view b)))) c.in_ok-callables.ensures c.misfit_of.ensures.none
