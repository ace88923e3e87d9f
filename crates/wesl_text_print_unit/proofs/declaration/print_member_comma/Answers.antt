use Rattle.std.proofs.Common.{◌≡◌, true, false, ap, rules, sym}
use Rattle.wesl_text_print.specs.Printing.{comma_unless}
use Rattle.wesl_text_print.proofs.Adding.{lawful, none, one, told}
use Rattle.wesl_text_print_unit.proofs.declaration.print_member_comma.Goals as goal

pub returns-then-not-is_first : goal.returns-then-not-is_first
returns-then-not-is_first g c =
    let e : c.args.is_first ≡ false = search rules in
    told (ap comma_unless (sym e)) (one (lawful g.met.S.TokenSink.none g.met.S.TokenSink.more) c.symbol.ensures)

pub returns-else-not-is_first : goal.returns-else-not-is_first
returns-else-not-is_first g c =
    let e : c.args.is_first ≡ true = search rules in
    told (ap comma_unless (sym e)) (none (lawful g.met.S.TokenSink.none g.met.S.TokenSink.more))
