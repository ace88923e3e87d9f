use Rattle.wesl_text_print.proofs.Adding.{lawful, one, then}
use Rattle.wesl_text_print_statements.proofs.statement.print_for_parts.Goals as goal

pub returns : goal.returns
returns g c =
    let l = lawful g.met.S.TokenSink.none g.met.S.TokenSink.more in
    let steps = then l (one l c.symbol.ensures) (then l c.print_initializer.ensures (then l (one l c.symbol-2.ensures) (then l c.print_optional_expression.ensures (then l (one l c.symbol-3.ensures) (then l c.print_update.ensures (one l c.symbol-4.ensures)))))) in
    steps
