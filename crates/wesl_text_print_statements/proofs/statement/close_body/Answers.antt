use Rattle.wesl_text_print.proofs.Adding.{after_blank, lawful, one}
use Rattle.wesl_text_print_statements.proofs.statement.close_body.Goals as goal

pub returns-then-has_end : goal.returns-then-has_end
returns-then-has_end g c =
    let l = lawful g.met.S.TokenSink.none g.met.S.TokenSink.more in
    after_blank l c.line.ensures (one l c.symbol.ensures)
