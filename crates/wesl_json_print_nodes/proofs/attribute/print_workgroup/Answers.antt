use Rattle.std.proofs.Common.{codes}
use Rattle.wesl_tree_syntax.specs.Tree.{attribute_node}
use Rattle.wesl_tree_syntax.specs.View.{expression_tree}
use Rattle.wesl_json_form.specs.Schema.{an_expression, node}
use Rattle.wesl_json_print_nodes.proofs.Adding.{lawful, then}
use Rattle.wesl_json_print_nodes.proofs.Parts.{option_added, span_added}
use Rattle.wesl_json_print_nodes.proofs.Attributes.{workgroup_printed}
use Rattle.wesl_json_print_nodes.proofs.attribute.print_workgroup.Goals as goal

pub returns : goal.returns
returns g c =
    let l = lawful g.met.S.Sink.none g.met.S.Sink.more in
    let steps = then l c.begin.ensures (then l c.text_at.ensures (then l (span_added c.args.spans attribute_node c.args.span (c.span.ensures attribute_node)) (then l c.print_expression_at.ensures (then l (option_added c.args.spans c.args.names.now (codes "y") (node an_expression) expression_tree _ c.print_optional_expression.ensures) (then l (option_added c.args.spans c.args.names.now (codes "z") (node an_expression) expression_tree _ c.print_optional_expression-2.ensures) c.close.ensures))))) in
    workgroup_printed c.args.spans c.args.span c.args.names.now c.args.x.now c.args.y.now c.args.z.now steps
