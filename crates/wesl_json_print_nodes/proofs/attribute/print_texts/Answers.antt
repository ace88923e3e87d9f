use Rattle.wesl_json_print_nodes.proofs.Adding.{lawful}
use Rattle.wesl_json_print_nodes.proofs.Lists.{all_texts_before, no_texts_before, one_text_more}
use Rattle.wesl_json_print_nodes.proofs.attribute.print_texts.Goals as goal

pub loop-text-init : goal.loop-text-init
loop-text-init g c =
    let l = lawful g.met.S.Sink.none g.met.S.Sink.more in
    no_texts_before l c.deref-text-items.result.now c.begin_list.new.self

pub loop-text-preserved : goal.loop-text-preserved
loop-text-preserved g c =
    let l = lawful g.met.S.Sink.none g.met.S.Sink.more in
    one_text_more l c.deref-text-items.result.now c.loop-text.text-index c.text-item.result _ c.loop-text-test.true c.text-item.is c.as_str.ensures.value c.loop-text.invariant c.text.ensures

pub returns : goal.returns
returns g c =
    let l = lawful g.met.S.Sink.none g.met.S.Sink.more in
    all_texts_before l c.deref-text-items.result.now c.args.texts.now.items c.loop-text.text-index c.deref-text-items.ensures.value c.loop-text-test.false c.begin_list.ensures c.loop-text.invariant c.close_list.ensures
