use Rattle.std.proofs.Common.{refl}
use Rattle.wesl_tree_syntax.specs.Tree.{const_assert, kind}
use Rattle.wesl_visit_collect.proofs.Adds.{beside, inside}
use Rattle.wesl_visit_collect.proofs.collect.statement.in_assert.Goals as goal

pub returns : goal.returns
returns g c =
    inside (kind const_assert) refl (λ f. refl) (beside c.at_attributes.ensures c.at_expression.ensures)
