use Rattle.std.proofs.Common.{ap, refl}
use Rattle.wesl_tree_syntax.specs.Tree.{before, custom, end, kind, workgroup_size}
use Rattle.wesl_tree_syntax.specs.View.{attribute_view, text_tree}
use Rattle.wesl_scope_spans.proofs.Either.{operand}
use Rattle.wesl_scope_spans.proofs.Steps.{beside, beyond, held, inside, viewed}
use Rattle.wesl_scope_spans.proofs.attributes.in_attribute.Goals as goal

pub returns-in-WorkgroupSize : goal.returns-in-WorkgroupSize
returns-in-WorkgroupSize c s =
    viewed (ap attribute_view c.in-WorkgroupSize.is) (inside (kind workgroup_size) refl (beside (c.in_node.ensures s) (beside (c.in_optional_node.ensures s) (c.in_optional_node-in-WorkgroupSize.ensures s))))

pub returns-in-Custom : goal.returns-in-Custom
returns-in-Custom c s = viewed (ap attribute_view c.in-Custom.is) (inside (kind custom) refl (beyond (text_tree c.in-Custom.name) refl (c.in_optional_nodes.ensures s)))

pub returns-in-Align : goal.returns-in-Align
returns-in-Align c s = held (before (attribute_view c.args.attribute.now) end) (operand s c.args.attribute.now c.in-Align.operand c.in-Align.is) (c.in_node-in-Align.ensures s)
