use Rattle.wesl_tree_syntax.specs.Tree.{directive_node}
use Rattle.wesl_json_print_nodes.proofs.Adding.{lawful, then}
use Rattle.wesl_json_print_nodes.proofs.Parts.{span_added}
use Rattle.wesl_json_print.proofs.Directives.{extensions_printed}
use Rattle.wesl_json_print.proofs.directive.print_extensions.Goals as goal

pub returns : goal.returns
returns g c =
    let l = lawful g.met.S.Sink.none g.met.S.Sink.more in
    let steps = then l c.begin.ensures (then l c.print_attributes.ensures (then l c.text_at.ensures (then l c.print_names.ensures (then l (span_added c.args.spans directive_node c.args.span (c.span.ensures directive_node)) c.close.ensures)))) in
    extensions_printed c.args.spans c.args.names.now c.args.span c.args.word.now c.args.attributes.now c.args.extensions.now steps
