use Rattle.std.proofs.Common.{refl}
use Rattle.wesl_json_print_nodes.proofs.Adding.{lawful, keyed, then}
use Rattle.wesl_json_print_nodes.proofs.Expressions.{call_object}
use Rattle.wesl_json_print_nodes.proofs.expression.print_call.Goals as goal

pub returns : goal.returns
returns g c =
    let l = lawful g.met.S.Sink.none g.met.S.Sink.more in
    let steps = then l c.begin.ensures (then l c.print_arguments.ensures (then l c.print_type_at.ensures c.close.ensures)) in
    let call = call_object c.args.spans c.args.names.now c.args.call.now _ _ refl refl steps in
    let both = keyed l c.key.ensures call in
    both
