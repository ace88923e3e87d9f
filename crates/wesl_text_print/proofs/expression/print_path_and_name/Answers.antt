use Rattle.wesl_text_print.proofs.Adding.{lawful, then}
use Rattle.wesl_text_print.proofs.expression.print_path_and_name.Goals as goal

pub returns : goal.returns
returns g c =
    let l = lawful g.met.S.TokenSink.none g.met.S.TokenSink.more in
    let steps = then l c.print_optional_path.ensures c.print_name.ensures in
    steps
