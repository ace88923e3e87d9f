use Rattle.wesl_text_form.specs.Productions.{an_attribute}
use Rattle.wesl_text_print.proofs.Adding.{lawful, one, then, told}
use Rattle.wesl_text_print.proofs.Lists.{all_before, node_slots, none_before, one_more}
use Rattle.wesl_text_print_statements.proofs.Rows.{all_is}
use Rattle.wesl_tree_syntax.specs.Tree.{attribute_node}
use Rattle.wesl_tree_syntax.specs.View.{attribute_view, placed}
use Rattle.wesl_text_print_statements.proofs.attribute.print_attributes.Goals as goal

pub loop-attribute-init : goal.loop-attribute-init
loop-attribute-init g c =
    let l = lawful g.met.S.TokenSink.none g.met.S.TokenSink.more in
    none_before (node_slots c.args.names.now an_attribute (placed attribute_view attribute_node)) l c.deref-attribute-items.result.now c.args.out.now

pub loop-attribute-preserved : goal.loop-attribute-preserved
loop-attribute-preserved g c =
    let l = lawful g.met.S.TokenSink.none g.met.S.TokenSink.more in
    one_more (node_slots c.args.names.now an_attribute (placed attribute_view attribute_node)) l c.deref-attribute-items.result.now c.loop-attribute.attribute-index c.attribute-item.result c.loop-attribute-test.true c.attribute-item.is c.loop-attribute.invariant
    (then l c.print_attribute.ensures (one l c.space.ensures))

pub returns : goal.returns
returns g c =
    let l = lawful g.met.S.TokenSink.none g.met.S.TokenSink.more in
    told (all_is c.args.names.now (placed attribute_view attribute_node) an_attribute c.args.attributes.now.items)
    (all_before (node_slots c.args.names.now an_attribute (placed attribute_view attribute_node)) l c.deref-attribute-items.result.now c.args.attributes.now.items c.loop-attribute.attribute-index c.deref-attribute-items.ensures.value c.loop-attribute-test.false c.loop-attribute.invariant)
