use Rattle.std.proofs.Common.{ap, option_map}
use Rattle.wesl_text_form.specs.Productions.{a_selector}
use Rattle.wesl_text_form.specs.Spelling.{trailing}
use Rattle.wesl_text_print.proofs.Adding.{lawful, told}
use Rattle.wesl_text_print.proofs.Lists.{all_commas_before, no_commas_before, node_slots, one_comma_more, separate_is}
use Rattle.wesl_text_print_statements.proofs.Bodies.{selector_shows}
use Rattle.wesl_tree_syntax.specs.View.{selector_view}
use Rattle.wesl_text_print_statements.proofs.statement.print_each_selector.Goals as goal

pub loop-selector-init : goal.loop-selector-init
loop-selector-init g c =
    let l = lawful g.met.S.TokenSink.none g.met.S.TokenSink.more in
    no_commas_before (node_slots c.args.names.now a_selector selector_view) l c.deref-selector-items.result.now c.args.out.now

pub loop-selector-preserved : goal.loop-selector-preserved
loop-selector-preserved g c =
    let l = lawful g.met.S.TokenSink.none g.met.S.TokenSink.more in
    one_comma_more (node_slots c.args.names.now a_selector selector_view) l c.deref-selector-items.result.now c.loop-selector.selector-index c.selector-item.result c.loop-selector.is_first c.loop-selector-test.true c.selector-item.is c.loop-selector.invariant c.print_comma.ensures c.print_selector.ensures

pub returns : goal.returns
returns g c =
    let l = lawful g.met.S.TokenSink.none g.met.S.TokenSink.more in
    told (ap (option_map trailing) (separate_is c.args.names.now a_selector selector_view c.args.selectors.now.items))
    (all_commas_before (node_slots c.args.names.now a_selector selector_view) l (selector_shows c.args.names.now) c.deref-selector-items.result.now c.args.selectors.now.items c.loop-selector.selector-index c.loop-selector.is_first c.deref-selector-items.ensures.value c.loop-selector-test.false c.loop-selector.invariant c.end_commas.ensures)
