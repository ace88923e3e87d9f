use Rattle.wesl_tree_syntax.specs.Tree.{attribute_node}
use Rattle.wesl_json_print_nodes.proofs.Adding.{lawful, then}
use Rattle.wesl_json_print_nodes.proofs.Parts.{span_added}
use Rattle.wesl_json_print_nodes.proofs.Attributes.{named_printed}
use Rattle.wesl_json_print_nodes.proofs.attribute.print_named.Goals as goal

pub returns : goal.returns
returns g c =
    let l = lawful g.met.S.Sink.none g.met.S.Sink.more in
    let steps = then l c.begin.ensures (then l c.text_at.ensures (then l c.text_at-2.ensures (then l (span_added c.args.spans attribute_node c.args.span (c.span.ensures attribute_node)) c.close.ensures))) in
    named_printed c.args.spans c.args.span c.args.word.now c.args.name.now steps
