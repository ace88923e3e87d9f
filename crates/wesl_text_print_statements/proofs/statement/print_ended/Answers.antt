use Rattle.wesl_text_print.proofs.Adding.{lawful, one, then}
use Rattle.wesl_text_print_statements.proofs.statement.print_ended.Goals as goal

pub returns : goal.returns
returns g c =
    let l = lawful g.met.S.TokenSink.none g.met.S.TokenSink.more in
    let steps = then l c.print_simple.ensures (one l c.symbol.ensures) in
    steps
