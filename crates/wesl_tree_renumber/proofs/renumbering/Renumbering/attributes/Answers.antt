use Rattle.std.proofs.Common.{arith, get_or}
use Rattle.wesl_tree_syntax.specs.Tree.{attribute_node, attributes}
use Rattle.wesl_tree_syntax.specs.View.{attribute_view, placed}
use Rattle.wesl_tree_renumber.proofs.Listed.{all_numbered, none_yet, one_more}
use Rattle.wesl_tree_renumber.proofs.Parts.{of_place}
use Rattle.wesl_tree_renumber.proofs.renumbering.Renumbering.attributes.Goals as goal

pub loop-attribute-init : goal.loop-attribute-init
loop-attribute-init c = none_yet (placed attribute_view attribute_node) _ _

pub loop-attribute-preserved : goal.loop-attribute-preserved
loop-attribute-preserved c =
    let l = c.loop-attribute in
    let x = get_or l.attribute-items l.attribute-index c.attribute-item.result in
    one_more (placed attribute_view attribute_node) c.attribute-item.result _ (omega arith) l.invariant (of_place attribute_view attribute_node x c.attribute.new.attribute c.attribute.ensures)

pub returns : goal.returns
returns c =
    let l = c.loop-attribute in
    let lent = c.deref_mut-attribute-items in
    all_numbered (placed attribute_view attribute_node) attributes c.args.attributes.now l.invariant lent.ensures.value (omega (arith, l.auto.attribute-items, lent.ensures.len)) (omega arith)
