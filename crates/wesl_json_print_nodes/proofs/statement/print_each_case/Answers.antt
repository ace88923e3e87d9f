use Rattle.wesl_json_print_nodes.proofs.Adding.{lawful}
use Rattle.std.proofs.Common.{refl}
use Rattle.wesl_tree_syntax.specs.View.{selector_view}
use Rattle.wesl_json_form.specs.Schema.{a_case}
use Rattle.wesl_json_print_nodes.proofs.Lists.{all_nodes_before, no_nodes_before, one_node_more}
use Rattle.wesl_json_print_nodes.proofs.statement.print_each_case.Goals as goal

pub loop-selector-init : goal.loop-selector-init
loop-selector-init g c =
    let l = lawful g.met.S.Sink.none g.met.S.Sink.more in
    no_nodes_before c.args.spans c.args.names.now a_case selector_view l c.deref-selector-items.result.now c.begin_list.new.self

pub loop-selector-preserved : goal.loop-selector-preserved
loop-selector-preserved g c =
    let l = lawful g.met.S.Sink.none g.met.S.Sink.more in
    one_node_more c.args.spans c.args.names.now a_case selector_view l c.deref-selector-items.result.now c.loop-selector.selector-index c.selector-item.result _ c.loop-selector-test.true c.selector-item.is refl c.loop-selector.invariant c.print_case.ensures

pub returns : goal.returns
returns g c =
    let l = lawful g.met.S.Sink.none g.met.S.Sink.more in
    all_nodes_before c.args.spans c.args.names.now a_case selector_view l c.deref-selector-items.result.now c.args.selectors.now.items c.loop-selector.selector-index c.deref-selector-items.ensures.value c.loop-selector-test.false c.begin_list.ensures c.loop-selector.invariant c.close_list.ensures
