use Rattle.wesl_text_print.proofs.Adding.{lawful, none, one, then, told}
use Rattle.wesl_text_print_statements.proofs.Attributes.{custom_printed}
use Rattle.wesl_text_print_statements.proofs.attribute.print_custom.Goals as goal

pub returns : goal.returns
returns g c =
    let l = lawful g.met.S.TokenSink.none g.met.S.TokenSink.more in
    told (custom_printed c.args.names.now c.args.name.now c.args.arguments.now) (then l (one l c.symbol.ensures) (then l c.print_custom_name.ensures (then l c.print_custom_arguments.ensures (none l))))
