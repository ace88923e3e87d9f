use Rattle.std.proofs.Common.{arith, refl}
use Rattle.wesl_tree_syntax.specs.Tree.{function, kind, parameter, parameters}
use Rattle.wesl_visit_collect.proofs.Adds.{beside, beyond, inside, walked_all, walked_next, walked_none}
use Rattle.wesl_visit_collect.proofs.collect.declaration.in_function.Goals as goal

pub loop-parameter-init : goal.loop-parameter-init
loop-parameter-init g c =
    walked_none

pub loop-parameter-preserved : goal.loop-parameter-preserved
loop-parameter-preserved g c =
    walked_next c.parameter-item.result (omega arith) c.parameter-item.is c.loop-parameter.invariant (inside (kind parameter) refl (λ f. refl) (beside c.at_attributes-in-loop-parameter.ensures (beyond refl c.at_type.ensures)))

pub returns : goal.returns
returns g c =
    inside (kind function) refl (λ f. refl) (beside c.at_attributes.ensures (beyond refl (beside (inside (kind parameters) refl (λ f. refl) (walked_all (omega arith) c.deref-parameter-items.ensures.value c.loop-parameter.invariant)) (beside c.at_attributes-2.ensures (beside c.at_optional_type.ensures c.in_compound.ensures)))))
