use Rattle.wesl_json_print_nodes.proofs.Adding.{lawful, keyed}
use Rattle.wesl_json_print_nodes.proofs.printer.Printer.text_at.Goals as goal

pub returns : goal.returns
returns g c =
    let l = lawful g.met.S.Sink.none g.met.S.Sink.more in
    let steps = keyed l c.key.ensures c.text.ensures in
    steps
