use Rattle.wesl_text_print.proofs.Adding.{after_blank, lawful, one, then}
use Rattle.wesl_text_print_unit.proofs.declaration.print_declared_type.Goals as goal

pub returns : goal.returns
returns g c =
    let l = lawful g.met.S.TokenSink.none g.met.S.TokenSink.more in
    let steps = then l (one l c.symbol.ensures) (after_blank l c.space.ensures c.print_type.ensures) in
    steps
