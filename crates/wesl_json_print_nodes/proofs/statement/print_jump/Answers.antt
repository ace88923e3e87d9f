use Rattle.wesl_tree_syntax.specs.Tree.{statement_node}
use Rattle.wesl_json_print_nodes.proofs.Adding.{lawful, then}
use Rattle.wesl_json_print_nodes.proofs.Parts.{span_added}
use Rattle.wesl_json_print_nodes.proofs.Statements.{jump_printed}
use Rattle.wesl_json_print_nodes.proofs.statement.print_jump.Goals as goal

pub returns : goal.returns
returns g c =
    let l = lawful g.met.S.Sink.none g.met.S.Sink.more in
    let steps = then l c.begin.ensures (then l c.print_attributes.ensures (then l c.text_at.ensures (then l (span_added c.args.spans statement_node c.args.span (c.span.ensures statement_node)) c.close.ensures))) in
    jump_printed c.args.spans c.args.names.now c.args.span c.args.word.now c.args.attributes.now steps
