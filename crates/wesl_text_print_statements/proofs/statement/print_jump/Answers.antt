use Rattle.wesl_text_print.proofs.Adding.{lawful, none, one, then}
use Rattle.wesl_text_print_statements.proofs.statement.print_jump.Goals as goal

pub returns : goal.returns
returns g c =
    let l = lawful g.met.S.TokenSink.none g.met.S.TokenSink.more in
    let steps = then l c.print_attributes.ensures (then l (one l c.keyword.ensures) (then l (one l c.symbol.ensures) (none l))) in
    steps
