use Rattle.std.proofs.Common.{subst}
use Rattle.std.specs.Prelude.{IfOk}
use Rattle.wesl_tree.specs.Translation.{unit_view}
use Rattle.wesl_validate_builtins.specs.Builtins.{builtins_view}
use Rattle.wesl_validate_calls.specs.Verdicts.{AreMisfits}
use Rattle.wesl_validate_calls.proofs.whole.misfits.Goals as goal

pub returns-clause-misfits : goal.returns-clause-misfits
returns-clause-misfits c = subst (λ b. IfOk c.misfits_of.result (λ r. AreMisfits (unit_view c.args.unit.now) (builtins_view b) r.items)) c.in_ok-callables.ensures c.misfits_of.ensures.misfits
