use Rattle.wesl_text_print.proofs.Adding.{after_blank, lawful, one, then, told}
use Rattle.wesl_text_print_unit.proofs.Imports.{import_printed}
use Rattle.wesl_text_print_unit.proofs.import.print_import.Goals as goal

pub returns : goal.returns
returns g c =
    let l = lawful g.met.S.TokenSink.none g.met.S.TokenSink.more in
    told (import_printed c.args.names.now c.args.import.now)
    (then l c.print_attributes.ensures (then l (one l c.keyword.ensures) (after_blank l c.space.ensures (then l c.print_optional_path.ensures (then l c.print_content.ensures (one l c.symbol.ensures))))))
