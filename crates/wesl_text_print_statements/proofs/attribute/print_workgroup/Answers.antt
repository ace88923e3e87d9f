use Rattle.std.proofs.Common.{◌≡◌, ◌&&◌, false, is_none, is_some, rules}
use Rattle.wesl_text_print.proofs.Adding.{lawful, none, one, then, told}
use Rattle.wesl_text_print_statements.proofs.Attributes.{sizes_printed}
use Rattle.wesl_text_print_statements.proofs.attribute.print_workgroup.Goals as goal

pub returns-else-is_none : goal.returns-else-is_none
returns-else-is_none g c =
    let l = lawful g.met.S.TokenSink.none g.met.S.TokenSink.more in
    let is : (is_none c.args.y.now && is_some c.args.z.now) ≡ false = search rules in
    told (sizes_printed c.args.names.now c.args.x.now c.args.y.now c.args.z.now is)
    (then l c.print_plain.ensures (then l (one l c.symbol.ensures) (then l c.print_expression.ensures (then l c.print_size.ensures (then l c.print_size-else-is_none.ensures (then l (one l c.may.ensures) (then l (one l c.symbol-else-is_none.ensures) (none l))))))))
