use Rattle.wesl_text_print.proofs.Adding.{after_blank, lawful, one}
use Rattle.wesl_text_print_unit.proofs.declaration.close_members.Goals as goal

pub returns-else-is_empty : goal.returns-else-is_empty
returns-else-is_empty g c =
    let l = lawful g.met.S.TokenSink.none g.met.S.TokenSink.more in
    after_blank l c.line.ensures (one l c.symbol-else-is_empty.ensures)
