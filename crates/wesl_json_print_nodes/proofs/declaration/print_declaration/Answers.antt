use Rattle.std.proofs.Common.{codes}
use Rattle.wesl_tree_syntax.specs.Tree.{declaration_node, statement_node}
use Rattle.wesl_tree_syntax.specs.View.{expression_tree, type_view}
use Rattle.wesl_json_form.specs.Schema.{a_type, an_expression, node}
use Rattle.wesl_json_print_nodes.proofs.Adding.{lawful, then}
use Rattle.wesl_json_print_nodes.proofs.Parts.{option_added, span_added}
use Rattle.wesl_json_print_nodes.proofs.Declarations.{access_added, global_declaration, local_declaration, space_added}
use Rattle.wesl_json_print_nodes.proofs.declaration.print_declaration.Goals as goal

pub returns-clause-global : goal.returns-clause-global
returns-clause-global g c =
    let l = lawful g.met.S.Sink.none g.met.S.Sink.more in
    let steps = then l c.begin.ensures (then l (access_added c.args.declaration.now.kind c.print_access.ensures) (then l c.print_attributes.ensures (then l (option_added c.args.spans c.args.names.now (codes "init") (node an_expression) expression_tree _ c.print_optional_expression.ensures) (then l c.text_at.ensures (then l c.text_at-2.ensures (then l (space_added c.args.declaration.now.kind c.print_space.ensures) (then l (span_added c.args.spans declaration_node c.args.span (c.span.ensures declaration_node)) (then l (option_added c.args.spans c.args.names.now (codes "ty") (node a_type) type_view _ c.print_optional_type.ensures) c.close.ensures)))))))) in
    global_declaration c.args.spans c.args.names.now c.args.span c.args.declaration.now _ _ c.kind_word.ensures c.spelling.ensures steps

pub returns-clause-local : goal.returns-clause-local
returns-clause-local g c =
    let l = lawful g.met.S.Sink.none g.met.S.Sink.more in
    let steps = then l c.begin.ensures (then l (access_added c.args.declaration.now.kind c.print_access.ensures) (then l c.print_attributes.ensures (then l (option_added c.args.spans c.args.names.now (codes "init") (node an_expression) expression_tree _ c.print_optional_expression.ensures) (then l c.text_at.ensures (then l c.text_at-2.ensures (then l (space_added c.args.declaration.now.kind c.print_space.ensures) (then l (span_added c.args.spans statement_node c.args.span (c.span.ensures statement_node)) (then l (option_added c.args.spans c.args.names.now (codes "ty") (node a_type) type_view _ c.print_optional_type.ensures) c.close.ensures)))))))) in
    local_declaration c.args.spans c.args.names.now c.args.span c.args.declaration.now _ _ c.kind_word.ensures c.spelling.ensures steps
