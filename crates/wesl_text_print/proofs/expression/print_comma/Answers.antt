use Rattle.std.proofs.Common.{◌≡◌, true, false, ap, rules, sym}
use Rattle.wesl_text_print.specs.Printing.{comma_unless}
use Rattle.wesl_text_print.proofs.Adding.{lawful, none, one, then, told}
use Rattle.wesl_text_print.proofs.expression.print_comma.Goals as goal

pub returns-then-not-is_first : goal.returns-then-not-is_first
returns-then-not-is_first g c =
    let l = lawful g.met.S.TokenSink.none g.met.S.TokenSink.more in
    let e : c.args.is_first ≡ false = search rules in
    told (ap comma_unless (sym e)) (then l (one l c.symbol.ensures) (one l c.space.ensures))

pub returns-else-not-is_first : goal.returns-else-not-is_first
returns-else-not-is_first g c =
    let e : c.args.is_first ≡ true = search rules in
    told (ap comma_unless (sym e)) (none (lawful g.met.S.TokenSink.none g.met.S.TokenSink.more))
