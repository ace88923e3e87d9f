use Rattle.wesl_text_print.proofs.Lists.{all_commas_before, no_commas_before, node_slots, one_comma_more, separate_is}
use Rattle.std.proofs.Common.{ap, option_map}
use Rattle.wesl_text_form.specs.Spelling.{trailing}
use Rattle.wesl_text_print.proofs.Adding.{lawful, told}
use Rattle.wesl_text_form.specs.Productions.{a_parameter}
use Rattle.wesl_tree_syntax.specs.View.{parameter_view}
use Rattle.wesl_text_print_unit.proofs.Declarations.{parameter_shows}
use Rattle.wesl_text_print_unit.proofs.declaration.print_parameters.Goals as goal

pub loop-parameter-init : goal.loop-parameter-init
loop-parameter-init g c =
    let l = lawful g.met.S.TokenSink.none g.met.S.TokenSink.more in
    no_commas_before (node_slots c.args.names.now a_parameter parameter_view) l c.deref-parameter-items.result.now c.args.out.now

pub loop-parameter-preserved : goal.loop-parameter-preserved
loop-parameter-preserved g c =
    let l = lawful g.met.S.TokenSink.none g.met.S.TokenSink.more in
    one_comma_more (node_slots c.args.names.now a_parameter parameter_view) l c.deref-parameter-items.result.now c.loop-parameter.parameter-index c.parameter-item.result c.loop-parameter.is_first c.loop-parameter-test.true c.parameter-item.is c.loop-parameter.invariant c.print_comma.ensures
    c.print_parameter.ensures

pub returns : goal.returns
returns g c =
    let l = lawful g.met.S.TokenSink.none g.met.S.TokenSink.more in
    told (ap (option_map trailing) (separate_is c.args.names.now a_parameter parameter_view c.args.parameters.now.items))
    (all_commas_before (node_slots c.args.names.now a_parameter parameter_view) l (parameter_shows c.args.names.now) c.deref-parameter-items.result.now c.args.parameters.now.items c.loop-parameter.parameter-index c.loop-parameter.is_first c.deref-parameter-items.ensures.value c.loop-parameter-test.false c.loop-parameter.invariant c.end_commas.ensures)
