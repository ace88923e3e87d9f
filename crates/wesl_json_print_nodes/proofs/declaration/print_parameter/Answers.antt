use Rattle.wesl_json_print_nodes.proofs.Adding.{lawful, then}
use Rattle.wesl_json_print_nodes.proofs.Declarations.{parameter_printed}
use Rattle.wesl_json_print_nodes.proofs.declaration.print_parameter.Goals as goal

pub returns : goal.returns
returns g c =
    let l = lawful g.met.S.Sink.none g.met.S.Sink.more in
    let steps = then l c.begin.ensures (then l c.print_attributes.ensures (then l c.text_at.ensures (then l c.print_type_at.ensures c.close.ensures))) in
    parameter_printed c.args.spans c.args.names.now c.args.parameter.now _ c.spelling.ensures steps
