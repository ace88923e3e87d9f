use Rattle.std.proofs.Common.{[], ◌<◌, length, rules}
use Rattle.std.proofs.lemmas.Grind.{common_steps}
use Rattle.wesl_text_print.proofs.Adding.{lawful, one, told}
use Rattle.wesl_text_print_unit.proofs.Declarations.{no_place}
use Rattle.wesl_text_print_unit.proofs.declaration.print_no_result.Goals as goal

pub returns-then-not-is_empty : goal.returns-then-not-is_empty
returns-then-not-is_empty g c =
    let l = lawful g.met.S.TokenSink.none g.met.S.TokenSink.more in
    let some : 0 < length c.args.attributes.now.items = search (rules, common_steps) in
    told (no_place [] c.args.attributes.now.items some) (one l c.refuse.ensures)
