use Rattle.std.proofs.Common.{refl}
use Rattle.std.proofs.lemmas.List.{get_or_default}
use Rattle.wesl_text_print.proofs.Adding.{lawful, one}
use Rattle.wesl_text_print.proofs.Lists.{all_before, none_before, one_more}
use Rattle.wesl_text_sink.specs.Filling.{fills_more, fills_none}
use Rattle.wesl_text_sink.proofs.Laying.{lent_name, lent_names, told}
use Rattle.wesl_text_sink.proofs.sink.TextSink.put_others.Goals as goal

pub loop-index-init : goal.loop-index-init
loop-index-init c = none_before lent_name (lawful fills_none fills_more) c.args.names.now c.args.self.now

pub loop-index-preserved : goal.loop-index-preserved
loop-index-preserved c =
    let l = lawful fills_none fills_more in
    one_more lent_name l c.args.names.now c.loop-index.index _ c.loop-index-test.true (get_or_default c.args.names.now c.loop-index.index _ _ c.loop-index-test.true) c.loop-index.invariant (one l c.put_slashed.ensures)

pub returns : goal.returns
returns c =
    let l = lawful fills_none fills_more in
    told (lent_names c.args.names.now) (all_before lent_name l c.args.names.now c.args.names.now c.loop-index.index refl c.loop-index-test.false c.loop-index.invariant).given
