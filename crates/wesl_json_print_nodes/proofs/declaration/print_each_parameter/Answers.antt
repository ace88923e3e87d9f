use Rattle.wesl_json_print_nodes.proofs.Adding.{lawful}
use Rattle.std.proofs.Common.{refl}
use Rattle.wesl_tree_syntax.specs.View.{parameter_view}
use Rattle.wesl_json_form.specs.Schema.{a_parameter}
use Rattle.wesl_json_print_nodes.proofs.Lists.{all_nodes_before, no_nodes_before, one_node_more}
use Rattle.wesl_json_print_nodes.proofs.declaration.print_each_parameter.Goals as goal

pub loop-parameter-init : goal.loop-parameter-init
loop-parameter-init g c =
    let l = lawful g.met.S.Sink.none g.met.S.Sink.more in
    no_nodes_before c.args.spans c.args.names.now a_parameter parameter_view l c.deref-parameter-items.result.now c.begin_list.new.self

pub loop-parameter-preserved : goal.loop-parameter-preserved
loop-parameter-preserved g c =
    let l = lawful g.met.S.Sink.none g.met.S.Sink.more in
    one_node_more c.args.spans c.args.names.now a_parameter parameter_view l c.deref-parameter-items.result.now c.loop-parameter.parameter-index c.parameter-item.result _ c.loop-parameter-test.true c.parameter-item.is refl c.loop-parameter.invariant c.print_parameter.ensures

pub returns : goal.returns
returns g c =
    let l = lawful g.met.S.Sink.none g.met.S.Sink.more in
    all_nodes_before c.args.spans c.args.names.now a_parameter parameter_view l c.deref-parameter-items.result.now c.args.parameters.now.items c.loop-parameter.parameter-index c.deref-parameter-items.ensures.value c.loop-parameter-test.false c.begin_list.ensures c.loop-parameter.invariant c.close_list.ensures
