use Rattle.std.proofs.Common.{arith, refl}
use Rattle.wesl_tree_syntax.specs.Tree.{at, attribute_node, attributes, kind}
use Rattle.wesl_scope_spans.proofs.Stepped.{walked_all, walked_next, walked_none}
use Rattle.wesl_scope_spans.proofs.Steps.{inside}
use Rattle.wesl_scope_spans.proofs.attributes.in_attributes.Goals as goal

pub loop-attribute-init : goal.loop-attribute-init
loop-attribute-init c s = walked_none

pub loop-attribute-preserved : goal.loop-attribute-preserved
loop-attribute-preserved c s =
    let a = c.attribute-item.result in
    walked_next a (omega arith) c.attribute-item.is (c.loop-attribute.invariant s) (inside (at attribute_node _ _) refl (c.in_attribute.ensures a.span))

pub returns : goal.returns
returns c s = inside (kind attributes) refl (walked_all (omega arith) c.deref-attribute-items.ensures.value (c.loop-attribute.invariant s))
