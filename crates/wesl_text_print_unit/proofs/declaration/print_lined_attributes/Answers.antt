use Rattle.wesl_text_print.proofs.Adding.{lawful, nothing_behind, one, then, told}
use Rattle.wesl_text_print_unit.proofs.declaration.print_lined_attributes.Goals as goal

pub returns-then-not-is_empty : goal.returns-then-not-is_empty
returns-then-not-is_empty g c =
    let l = lawful g.met.S.TokenSink.none g.met.S.TokenSink.more in
    told (nothing_behind _) (then l c.print_attributes.ensures (one l c.line.ensures))
