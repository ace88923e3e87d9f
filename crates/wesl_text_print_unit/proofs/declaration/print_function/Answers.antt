use Rattle.wesl_text_print.proofs.Adding.{after_blank, lawful, none, one, then, told}
use Rattle.wesl_text_print_unit.proofs.Declarations.{function_printed}
use Rattle.wesl_text_print_unit.proofs.declaration.print_function.Goals as goal

pub returns : goal.returns
returns g c =
    let l = lawful g.met.S.TokenSink.none g.met.S.TokenSink.more in
    told (function_printed c.args.names.now c.args.function.now)
    (then l c.print_lined_attributes.ensures (then l (one l c.keyword.ensures) (after_blank l c.space.ensures (then l c.print_name.ensures (then l (one l c.symbol.ensures) (then l c.print_parameters.ensures (then l (one l c.symbol-2.ensures) (after_blank l c.space-2.ensures (then l c.print_result.ensures (then l c.print_body.ensures (none l)))))))))))
