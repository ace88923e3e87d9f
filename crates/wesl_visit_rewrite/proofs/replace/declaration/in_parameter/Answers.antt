use Rattle.std.proofs.Common.{refl}
use Rattle.wesl_tree_syntax.specs.Tree.{parameter, kind}
use Rattle.wesl_visit_rewrite.proofs.Steps.{beside, inside, unmoved}
use Rattle.wesl_visit_rewrite.proofs.replace.declaration.in_parameter.Goals as goal

pub returns : goal.returns
returns g c =
    inside (kind parameter) refl refl (beside c.at_attributes-goes.ensures (beside (unmoved _ refl) c.at_type.ensures))
