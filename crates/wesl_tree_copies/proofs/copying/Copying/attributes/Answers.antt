use Rattle.wesl_tree_syntax.specs.Tree.{attribute_node, attributes}
use Rattle.wesl_tree_syntax.specs.View.{attribute_view, placed}
use Rattle.wesl_tree_copies.proofs.Listed.{all_copied, none_yet, one_more}
use Rattle.wesl_tree_copies.proofs.copying.Copying.attributes.Goals as goal

pub loop-attribute-init : goal.loop-attribute-init
loop-attribute-init c = none_yet (placed attribute_view attribute_node) (placed attribute_view attribute_node) _ _ _ _ c.list-copies.ensures.empty c.list-copies.ensures.noted

pub loop-attribute-preserved : goal.loop-attribute-preserved
loop-attribute-preserved c =
    one_more (placed attribute_view attribute_node) (placed attribute_view attribute_node) c.loop-attribute-test.true c.attribute-item.is c.loop-attribute.invariant c.attribute_node-copy.ensures c.push.ensures.noted c.push.ensures.pushed

pub returns : goal.returns
returns c = all_copied (placed attribute_view attribute_node) (placed attribute_view attribute_node) attributes c.args.attributes.now c.loop-attribute.copies c.loop-attribute.invariant c.deref-attribute-items.ensures.value c.loop-attribute-test.false
