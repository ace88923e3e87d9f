use Rattle.std.proofs.Common.{refl}
use Rattle.wesl_tree_syntax.specs.Tree.{function, kind}
use Rattle.wesl_scope_spans.proofs.Steps.{beside, inside, met}
use Rattle.wesl_scope_spans.proofs.declarations.in_function.Goals as goal

pub returns : goal.returns
returns c =
    let s = c.args.round in
    inside (kind function) refl (beside (c.in_attributes.ensures s) (met c.meet.ensures
    (beside c.in_parameters.ensures (beside (c.in_attributes-2.ensures s) (beside c.in_optional_type.ensures (c.in_compound.ensures s))))))
