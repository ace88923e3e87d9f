use Rattle.std.proofs.Common.{refl}
use Rattle.wesl_tree_syntax.specs.Tree.{const_assert, kind}
use Rattle.wesl_visit_rewrite.proofs.Steps.{beside, inside}
use Rattle.wesl_visit_rewrite.proofs.replace.statement.in_assert.Goals as goal

pub returns : goal.returns
returns g c =
    inside (kind const_assert) refl refl (beside c.at_attributes-goes.ensures c.at_expression.ensures)
