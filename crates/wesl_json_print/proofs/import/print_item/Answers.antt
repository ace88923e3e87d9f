use Rattle.wesl_json_print_nodes.proofs.Adding.{lawful, then}
use Rattle.wesl_json_print.proofs.Imports.{item_printed, rename_added}
use Rattle.wesl_json_print.proofs.import.print_item.Goals as goal

pub returns : goal.returns
returns g c =
    let l = lawful g.met.S.Sink.none g.met.S.Sink.more in
    let steps = then l c.begin.ensures (then l (rename_added c.args.spans c.args.names.now c.args.item.now.rename c.print_rename.ensures) (then l c.text_at.ensures c.close.ensures)) in
    item_printed c.args.spans c.args.names.now c.args.item.now _ c.spelling.ensures steps
