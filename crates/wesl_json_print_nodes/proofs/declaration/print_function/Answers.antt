use Rattle.std.proofs.Common.{codes}
use Rattle.wesl_tree_syntax.specs.Tree.{declaration_node}
use Rattle.wesl_tree_syntax.specs.View.{type_view}
use Rattle.wesl_json_form.specs.Schema.{a_type, node}
use Rattle.wesl_json_print_nodes.proofs.Adding.{lawful, then}
use Rattle.wesl_json_print_nodes.proofs.Parts.{option_added, span_added}
use Rattle.wesl_json_print_nodes.proofs.Declarations.{function_printed}
use Rattle.wesl_json_print_nodes.proofs.declaration.print_function.Goals as goal

pub returns : goal.returns
returns g c =
    let l = lawful g.met.S.Sink.none g.met.S.Sink.more in
    let steps = then l c.begin.ensures (then l c.print_attributes.ensures (then l c.print_body_at.ensures (then l c.text_at.ensures (then l c.text_at-2.ensures (then l c.print_parameters.ensures (then l (option_added c.args.spans c.args.names.now (codes "ret") (node a_type) type_view _ c.print_optional_type.ensures) (then l c.print_attributes-2.ensures (then l (span_added c.args.spans declaration_node c.args.span (c.span.ensures declaration_node)) c.close.ensures)))))))) in
    function_printed c.args.spans c.args.names.now c.args.span c.args.function.now _ c.spelling.ensures steps
