use Rattle.std.proofs.Common.{refl}
use Rattle.wesl_tree_syntax.specs.Tree.{const_assert, kind}
use Rattle.wesl_scope_spans.proofs.Steps.{beside, inside}
use Rattle.wesl_scope_spans.proofs.statements.in_assertion.Goals as goal

pub returns : goal.returns
returns c s = inside (kind const_assert) refl (beside (c.in_attributes.ensures s) (c.in_node.ensures s))
