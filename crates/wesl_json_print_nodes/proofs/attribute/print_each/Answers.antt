use Rattle.wesl_json_print_nodes.proofs.Adding.{lawful}
use Rattle.std.proofs.Common.{sym}
use Rattle.wesl_tree_syntax.specs.Tree.{attribute_node}
use Rattle.wesl_tree_syntax.specs.View.{attribute_view, placed}
use Rattle.wesl_json_form.specs.Schema.{an_attribute}
use Rattle.wesl_json_words.proofs.Lists.{placed-value}
use Rattle.wesl_json_print_nodes.proofs.Lists.{all_nodes_before, no_nodes_before, one_node_more}
use Rattle.wesl_json_print_nodes.proofs.attribute.print_each.Goals as goal

pub loop-attribute-init : goal.loop-attribute-init
loop-attribute-init g c =
    let l = lawful g.met.S.Sink.none g.met.S.Sink.more in
    no_nodes_before c.args.spans c.args.names.now an_attribute (placed attribute_view attribute_node) l c.deref-attribute-items.result.now c.begin_list.new.self

pub loop-attribute-preserved : goal.loop-attribute-preserved
loop-attribute-preserved g c =
    let l = lawful g.met.S.Sink.none g.met.S.Sink.more in
    one_node_more c.args.spans c.args.names.now an_attribute (placed attribute_view attribute_node) l c.deref-attribute-items.result.now c.loop-attribute.attribute-index c.attribute-item.result _ c.loop-attribute-test.true c.attribute-item.is (sym (placed-value c.args.spans c.args.names.now an_attribute attribute_view attribute_node c.attribute-item.result)) c.loop-attribute.invariant c.print_attribute.ensures

pub returns : goal.returns
returns g c =
    let l = lawful g.met.S.Sink.none g.met.S.Sink.more in
    all_nodes_before c.args.spans c.args.names.now an_attribute (placed attribute_view attribute_node) l c.deref-attribute-items.result.now c.args.attributes.now.items c.loop-attribute.attribute-index c.deref-attribute-items.ensures.value c.loop-attribute-test.false c.begin_list.ensures c.loop-attribute.invariant c.close_list.ensures
