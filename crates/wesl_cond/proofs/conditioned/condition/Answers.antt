use Rattle.std.proofs.Common.{Some, Err, option_copied, refl, rules, subst, sym}
use Rattle.wesl_cond.proofs.HandedOn.{handed_as}
use Rattle.wesl_cond.specs.Conditioned.{IsConditioned, IsRefusedBy}
use Rattle.wesl_tree_names.specs.declared.errors.Diagnostic.{out-Diagnostic}
use Rattle.wesl_tree.specs.Translation.{unit_view}
use Rattle.wesl_cond.proofs.conditioned.condition.Goals as goal

pub returns-in-Ok : goal.returns-in-Ok
returns-in-Ok c = search rules

pub returns-in-Err : goal.returns-in-Err
returns-in-Err c =
    subst (λ o. IsConditioned (option_copied o) c.args.unit (Err c.handed_on.result)) (sym c.in-Some.is)
    (handed_as (IsRefusedBy (Some c.in-Some.features.now) (unit_view c.args.unit)) (out-Diagnostic c.in-Err.told).error c.handed_on.result (c.in-Err.told, c.in-Err.ensures.refused, refl) c.handed_on.ensures)
