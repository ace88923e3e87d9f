use Rattle.std.proofs.Common.{rules}
use Rattle.wesl_tree_syntax.specs.Tree.{attribute_node}
use Rattle.wesl_json_print_nodes.proofs.Adding.{lawful, keyed, then}
use Rattle.wesl_json_print_nodes.proofs.Parts.{span_added}
use Rattle.wesl_json_print_nodes.proofs.Attributes.{bare_custom, custom_printed}
use Rattle.wesl_json_print_nodes.proofs.attribute.print_custom.Goals as goal

pub returns-in-None : goal.returns-in-None
returns-in-None g c = bare_custom c.args.spans c.args.span c.args.names.now c.args.name.now c.args.arguments.now (search rules) c.print_named.ensures

pub returns-in-Some : goal.returns-in-Some
returns-in-Some g c =
    let l = lawful g.met.S.Sink.none g.met.S.Sink.more in
    let steps = then l c.begin.ensures (then l (keyed l c.key.ensures c.print_expressions.ensures) (then l c.text_at.ensures (then l c.text_at-in-Some.ensures (then l (span_added c.args.spans attribute_node c.args.span (c.span.ensures attribute_node)) c.close.ensures)))) in
    custom_printed c.args.spans c.args.span c.args.names.now c.args.name.now c.args.arguments.now c.in-Some.arguments (search rules) steps
