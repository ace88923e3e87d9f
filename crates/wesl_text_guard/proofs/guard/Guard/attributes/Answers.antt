use Rattle.wesl_text_guard.specs.Guards.{as_it_is}
use Rattle.std.proofs.Common.{arith, get_or}
use Rattle.wesl_tree_syntax.specs.Tree.{attribute_node, attributes}
use Rattle.wesl_tree_syntax.specs.View.{attribute_view, placed}
use Rattle.wesl_text_guard.proofs.Listed.{all_guarded, none_yet, nothing_asked, one_more}
use Rattle.wesl_text_guard.proofs.Parts.{of_place}
use Rattle.wesl_text_guard.proofs.guard.Guard.attributes.Goals as goal

pub loop-attribute-init : goal.loop-attribute-init
loop-attribute-init c = none_yet as_it_is (placed attribute_view attribute_node) _ _

pub loop-attribute-preserved : goal.loop-attribute-preserved
loop-attribute-preserved c =
    let l = c.loop-attribute in
    let x = get_or l.attribute-items l.attribute-index c.attribute-item.result in
    one_more as_it_is (placed attribute_view attribute_node) c.attribute-item.result _ (omega arith) l.invariant (of_place attribute_view attribute_node x c.attribute.new.attribute c.attribute.ensures)

pub returns : goal.returns
returns c =
    let l = c.loop-attribute in
    let lent = c.deref_mut-attribute-items in
    all_guarded as_it_is (placed attribute_view attribute_node) attributes (nothing_asked (placed attribute_view attribute_node)) c.args.attributes.now l.invariant lent.ensures.value (omega (arith, l.auto.attribute-items, lent.ensures.len)) (omega arith)
