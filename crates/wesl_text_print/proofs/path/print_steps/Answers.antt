use Rattle.std.proofs.Common.{ap, Some, [], ◌∷◌}
use Rattle.wesl_text_form.specs.Spelling.{followed, signed}
use Rattle.wesl_text_tokens.specs.declared.symbol.Symbol.TheVariants as sign
use Rattle.wesl_text_print.specs.Printing.{name_slots}
use Rattle.wesl_text_print.proofs.Adding.{lawful, one, then, told}
use Rattle.wesl_text_print.proofs.Lists.{all_before, none_before, one_more}
use Rattle.wesl_text_print.proofs.Paths.{step_slots, steps_printed}
use Rattle.wesl_text_print.proofs.path.print_steps.Goals as goal

pub loop-step-init : goal.loop-step-init
loop-step-init g c =
    let l = lawful g.met.S.TokenSink.none g.met.S.TokenSink.more in
    none_before step_slots l c.deref-step-items.result.now c.args.out.now

pub loop-step-preserved : goal.loop-step-preserved
loop-step-preserved g c =
    let l = lawful g.met.S.TokenSink.none g.met.S.TokenSink.more in
    one_more step_slots l c.deref-step-items.result.now c.loop-step.step-index c.step-item.result c.loop-step-test.true c.step-item.is c.loop-step.invariant
    (told (ap (λ t. followed (name_slots t) (Some (signed sign.ColonColon ∷ []))) c.as_str.ensures.value) (then l (one l c.name.ensures) (one l c.symbol.ensures)))

pub returns : goal.returns
returns g c =
    let l = lawful g.met.S.TokenSink.none g.met.S.TokenSink.more in
    told (steps_printed c.args.steps.now.items) (all_before step_slots l c.deref-step-items.result.now c.args.steps.now.items c.loop-step.step-index c.deref-step-items.ensures.value c.loop-step-test.false c.loop-step.invariant)
