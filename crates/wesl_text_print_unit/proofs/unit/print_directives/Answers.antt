use Rattle.wesl_text_form.specs.Productions.{a_directive}
use Rattle.wesl_tree_syntax.specs.Tree.{directive_node}
use Rattle.wesl_tree_syntax.specs.View.{directive_view, placed}
use Rattle.wesl_text_print.proofs.Adding.{lawful, one, then, told}
use Rattle.wesl_text_print.proofs.Lists.{all_before, node_slots, none_before, one_more}
use Rattle.wesl_text_print_statements.proofs.Rows.{all_is}
use Rattle.wesl_text_print_unit.proofs.unit.print_directives.Goals as goal

pub loop-directive-init : goal.loop-directive-init
loop-directive-init g c =
    let l = lawful g.met.S.TokenSink.none g.met.S.TokenSink.more in
    none_before (node_slots c.args.names.now a_directive (placed directive_view directive_node)) l c.deref-directive-items.result.now c.args.out.now

pub loop-directive-preserved : goal.loop-directive-preserved
loop-directive-preserved g c =
    let l = lawful g.met.S.TokenSink.none g.met.S.TokenSink.more in
    one_more (node_slots c.args.names.now a_directive (placed directive_view directive_node)) l c.deref-directive-items.result.now c.loop-directive.directive-index c.directive-item.result c.loop-directive-test.true c.directive-item.is c.loop-directive.invariant
    (then l c.print_directive.ensures (one l c.line.ensures))

pub returns : goal.returns
returns g c =
    let l = lawful g.met.S.TokenSink.none g.met.S.TokenSink.more in
    told (all_is c.args.names.now (placed directive_view directive_node) a_directive c.args.directives.now.items)
    (all_before (node_slots c.args.names.now a_directive (placed directive_view directive_node)) l c.deref-directive-items.result.now c.args.directives.now.items c.loop-directive.directive-index c.deref-directive-items.ensures.value c.loop-directive-test.false c.loop-directive.invariant)
