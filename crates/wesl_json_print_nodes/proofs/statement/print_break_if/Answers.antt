use Rattle.wesl_json_print_nodes.proofs.Adding.{lawful, then}
use Rattle.wesl_json_print_nodes.proofs.Statements.{break_if_printed}
use Rattle.wesl_json_print_nodes.proofs.statement.print_break_if.Goals as goal

pub returns : goal.returns
returns g c =
    let l = lawful g.met.S.Sink.none g.met.S.Sink.more in
    let steps = then l c.begin.ensures (then l c.print_attributes.ensures (then l c.print_expression_at.ensures c.close.ensures)) in
    break_if_printed c.args.spans c.args.names.now c.args.break_if.now steps
