use Rattle.std.proofs.Common.{refl}
use Rattle.wesl_tree_syntax.specs.Tree.{declaration, kind}
use Rattle.wesl_visit_rewrite.proofs.Steps.{beside, inside, unmoved}
use Rattle.wesl_visit_rewrite.proofs.replace.statement.in_declaration.Goals as goal
use Rattle.wesl_visit_collect.proofs.Parts.{kind_hollow}

pub returns : goal.returns
returns g c =
    inside (kind declaration) refl refl (beside c.at_attributes-goes.ensures (beside (unmoved _ (kind_hollow c.args.declaration.now.kind)) (beside (unmoved _ refl) (beside c.at_optional_type-goes.ensures c.at_optional_expression.ensures))))
