use Rattle.wesl_tree_syntax.specs.Tree.{declaration_node}
use Rattle.wesl_json_print_nodes.proofs.Adding.{lawful, then}
use Rattle.wesl_json_print_nodes.proofs.Parts.{span_added}
use Rattle.wesl_json_print_nodes.proofs.Declarations.{struct_printed}
use Rattle.wesl_json_print_nodes.proofs.declaration.print_struct.Goals as goal

pub returns : goal.returns
returns g c =
    let l = lawful g.met.S.Sink.none g.met.S.Sink.more in
    let steps = then l c.begin.ensures (then l c.print_attributes.ensures (then l c.text_at.ensures (then l c.print_members.ensures (then l c.text_at-2.ensures (then l (span_added c.args.spans declaration_node c.args.span (c.span.ensures declaration_node)) c.close.ensures))))) in
    struct_printed c.args.spans c.args.names.now c.args.span c.args.structure.now _ c.spelling.ensures steps
