use Rattle.wesl_text_print.proofs.Adding.{lawful, none, then, told}
use Rattle.wesl_text_print_unit.proofs.Imports.{item_printed}
use Rattle.wesl_text_print_unit.proofs.import.print_item.Goals as goal

pub returns : goal.returns
returns g c =
    let l = lawful g.met.S.TokenSink.none g.met.S.TokenSink.more in
    told (item_printed c.args.names.now c.args.item.now)
    (then l c.print_name.ensures (then l c.print_new_name.ensures (none l)))
