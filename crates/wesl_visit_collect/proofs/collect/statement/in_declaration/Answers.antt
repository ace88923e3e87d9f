use Rattle.std.proofs.Common.{refl}
use Rattle.wesl_tree_syntax.specs.Tree.{declaration, kind}
use Rattle.wesl_visit_collect.proofs.Adds.{beside, beyond, inside}
use Rattle.wesl_visit_collect.proofs.Parts.{kind_hollow}
use Rattle.wesl_visit_collect.proofs.collect.statement.in_declaration.Goals as goal

pub returns : goal.returns
returns g c =
    inside (kind declaration) refl (λ f. refl) (beside c.at_attributes.ensures (beyond (kind_hollow c.args.declaration.now.kind) (beyond refl (beside c.at_optional_type.ensures c.at_optional_expression.ensures))))
