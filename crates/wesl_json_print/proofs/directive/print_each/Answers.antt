use Rattle.std.proofs.Common.{sym}
use Rattle.wesl_tree_syntax.specs.Tree.{directive_node}
use Rattle.wesl_tree_syntax.specs.View.{directive_view, placed}
use Rattle.wesl_json_form.specs.Schema.{a_directive}
use Rattle.wesl_json_words.proofs.Lists.{placed-value}
use Rattle.wesl_json_print_nodes.proofs.Adding.{lawful}
use Rattle.wesl_json_print_nodes.proofs.Lists.{all_nodes_before, no_nodes_before, one_node_more}
use Rattle.wesl_json_print.proofs.directive.print_each.Goals as goal

pub loop-directive-init : goal.loop-directive-init
loop-directive-init g c =
    let l = lawful g.met.S.Sink.none g.met.S.Sink.more in
    no_nodes_before c.args.spans c.args.names.now a_directive (placed directive_view directive_node) l c.deref-directive-items.result.now c.begin_list.new.self

pub loop-directive-preserved : goal.loop-directive-preserved
loop-directive-preserved g c =
    let l = lawful g.met.S.Sink.none g.met.S.Sink.more in
    one_node_more c.args.spans c.args.names.now a_directive (placed directive_view directive_node) l c.deref-directive-items.result.now c.loop-directive.directive-index c.directive-item.result _ c.loop-directive-test.true c.directive-item.is (sym (placed-value c.args.spans c.args.names.now a_directive directive_view directive_node c.directive-item.result)) c.loop-directive.invariant c.print_directive.ensures

pub returns : goal.returns
returns g c =
    let l = lawful g.met.S.Sink.none g.met.S.Sink.more in
    all_nodes_before c.args.spans c.args.names.now a_directive (placed directive_view directive_node) l c.deref-directive-items.result.now c.args.directives.now.items c.loop-directive.directive-index c.deref-directive-items.ensures.value c.loop-directive-test.false c.begin_list.ensures c.loop-directive.invariant c.close_list.ensures
