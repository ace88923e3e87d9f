use Rattle.std.proofs.Common.{refl, arith}
use Rattle.wesl_tree_syntax.specs.Tree.{function, kind, parameters}
use Rattle.wesl_tree_syntax.specs.View.{parameter_view}
use Rattle.wesl_visit_rewrite.proofs.Steps.{beside, inside, unmoved, went_list}
use Rattle.wesl_visit_rewrite.proofs.replace.declaration.in_function.Goals as goal

pub returns : goal.returns
returns g c =
    let d = c.in_parameters-goes in
    inside (kind function) refl refl (beside c.at_attributes-goes.ensures (beside (unmoved _ refl) (beside (went_list parameter_view parameters c.args.function.now.parameters _ d.new.all refl refl c.deref_mut.ensures.value (omega (arith, d.auto.all, c.deref_mut.ensures.len)) d.ensures) (beside c.at_attributes-goes-2.ensures (beside c.at_optional_type-goes.ensures c.in_compound.ensures)))))
