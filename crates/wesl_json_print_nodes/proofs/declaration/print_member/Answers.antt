use Rattle.wesl_tree_syntax.specs.Tree.{member_node}
use Rattle.wesl_json_print_nodes.proofs.Adding.{lawful, text_is, then}
use Rattle.wesl_json_print_nodes.proofs.Parts.{span_added}
use Rattle.wesl_json_print_nodes.proofs.Declarations.{member_printed}
use Rattle.wesl_json_print_nodes.proofs.declaration.print_member.Goals as goal

pub returns : goal.returns
returns g c =
    let l = lawful g.met.S.Sink.none g.met.S.Sink.more in
    let steps = then l c.begin.ensures (then l c.print_attributes.ensures (then l (text_is c.as_str.ensures.value c.text_at.ensures) (then l (span_added c.args.spans member_node c.args.span (c.span.ensures member_node)) (then l c.print_type_at.ensures c.close.ensures)))) in
    member_printed c.args.spans c.args.names.now c.args.span c.args.member.now steps
