use Rattle.wesl_text_print.proofs.Adding.{after_blank, lawful, none, one, then}
use Rattle.wesl_text_print_statements.proofs.attribute.print_diagnostic.Goals as goal

pub returns : goal.returns
returns g c =
    let l = lawful g.met.S.TokenSink.none g.met.S.TokenSink.more in
    let steps = then l (one l c.symbol.ensures) (then l (one l c.word.ensures) (then l (one l c.symbol-2.ensures) (after_blank l c.space.ensures (then l (one l c.rule.ensures) (then l (one l c.may.ensures) (then l (one l c.symbol-3.ensures) (none l))))))) in
    steps
