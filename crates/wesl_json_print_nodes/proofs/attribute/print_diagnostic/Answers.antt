use Rattle.wesl_tree_syntax.specs.Tree.{attribute_node}
use Rattle.wesl_json_print_nodes.proofs.Adding.{lawful, then}
use Rattle.wesl_json_print_nodes.proofs.Parts.{span_added}
use Rattle.wesl_json_print_nodes.proofs.Attributes.{diagnostic_printed}
use Rattle.wesl_json_print_nodes.proofs.attribute.print_diagnostic.Goals as goal

pub returns : goal.returns
returns g c =
    let l = lawful g.met.S.Sink.none g.met.S.Sink.more in
    let steps = then l c.begin.ensures (then l c.text_at.ensures (then l c.text_at-2.ensures (then l c.text_at-3.ensures (then l (span_added c.args.spans attribute_node c.args.span (c.span.ensures attribute_node)) c.close.ensures)))) in
    diagnostic_printed c.args.spans c.args.span c.args.severity.now c.args.rule.now steps
