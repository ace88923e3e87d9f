use Rattle.std.proofs.Common.{refl}
use Rattle.wesl_tree_syntax.specs.Tree.{kind, member}
use Rattle.wesl_visit_collect.proofs.Adds.{beside, beyond, inside}
use Rattle.wesl_visit_collect.proofs.collect.declaration.in_member.Goals as goal

pub returns : goal.returns
returns g c =
    inside (kind member) refl (λ f. refl) (beside c.at_attributes.ensures (beyond refl c.at_type.ensures))
