use Rattle.wesl_tree_syntax.specs.Tree.{declaration_node, statement_node}
use Rattle.wesl_json_print_nodes.proofs.Adding.{lawful, then}
use Rattle.wesl_json_print_nodes.proofs.Parts.{span_added}
use Rattle.wesl_json_print_nodes.proofs.Declarations.{global_void, local_void}
use Rattle.wesl_json_print_nodes.proofs.statement.print_void.Goals as goal

pub returns-clause-global : goal.returns-clause-global
returns-clause-global g c =
    let l = lawful g.met.S.Sink.none g.met.S.Sink.more in
    let steps = then l c.begin.ensures (then l c.text_at.ensures (then l (span_added c.args.spans declaration_node c.args.span (c.span.ensures declaration_node)) c.close.ensures)) in
    global_void c.args.spans c.args.names.now c.args.span steps

pub returns-clause-local : goal.returns-clause-local
returns-clause-local g c =
    let l = lawful g.met.S.Sink.none g.met.S.Sink.more in
    let steps = then l c.begin.ensures (then l c.text_at.ensures (then l (span_added c.args.spans statement_node c.args.span (c.span.ensures statement_node)) c.close.ensures)) in
    local_void c.args.spans c.args.names.now c.args.span steps
