use Rattle.std.proofs.Common.{subst}
use Rattle.wesl_tree.specs.Translation.{unit_view}
use Rattle.wesl_validate_builtins.specs.Builtins.{builtins_view}
use Rattle.wesl_validate_calls.specs.Verdicts.{AddsMisfits, numbered}
use Rattle.wesl_validate_calls.proofs.whole.add_misfits_in.Goals as goal

pub returns-clause-added : goal.returns-clause-added
returns-clause-added c =
    subst (λ cs. AddsMisfits (unit_view c.args.unit.now) (builtins_view c.args.callables.now.builtins.now) (numbered c.args.number cs) c.args.misfits.now.items c.add_misfits.new.misfits.items)
    c.in_ok-calls.ensures.calls c.in_ok-add_misfits.ensures
