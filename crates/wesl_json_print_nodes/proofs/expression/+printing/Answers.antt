use Rattle.std.proofs.Common.{◌≡◌}
use Rattle.wesl_json_words.specs.Values.{expression_at, expression_data}
use Rattle.std.specs.Box.{box_value}
use Rattle.std.proofs.Common.{ap, codes, refl, rules, sym, ◌∙◌}
use Rattle.std.proofs.lemmas.Grind.{common_steps}
use Rattle.wesl_tree_syntax.specs.Tree.{expression_node}
use Rattle.wesl_tree_syntax.specs.View.{argument_view, boxed_path, expression_tree, expression_view, type_view}
use Rattle.wesl_json_form.specs.Schema.{a_path, a_template_argument, a_type, an_expression, leaf, node}
use Rattle.wesl_json_words.proofs.Lists.{placed-value}
use Rattle.wesl_json_words.proofs.Within.{written-argument}
use Rattle.wesl_json_words.specs.Values.{value_in}
use Rattle.wesl_tree_syntax.specs.declared.expression.TemplateArg.{out-TemplateArg}
use Rattle.wesl_json_print_nodes.specs.Events.{events}
use Rattle.wesl_json_print_nodes.proofs.Adding.{lawful, value_is, keyed, text_is, then, told}
use Rattle.wesl_json_print_nodes.proofs.Parts.{option_added, span_added}
use Rattle.wesl_json_print_nodes.proofs.Lists.{all_nodes_before, no_nodes, no_nodes_before, one_node_more, some_nodes}
use Rattle.wesl_json_print_nodes.proofs.Expressions.{argued_type, binary_printed, call_printed, component_printed, indexing_printed, literal_printed, nowhere, parenthesized_printed, plain_type, type_printed, unary_printed}
use Rattle.wesl_json_print_nodes.proofs.expression.+printing.Goals as goal
use Rattle.wesl_tree_syntax.proofs.Views.{view_argument}

pub print_expression-returns-in-Parenthesized : goal.print_expression-returns-in-Parenthesized
print_expression-returns-in-Parenthesized g t c =
    let l = lawful g.met.S.Sink.none g.met.S.Sink.more in
    let place0 : expression_at c.args.spans c.args.names.now c.deref-in-Parenthesized.result.now.span (expression_view c.deref.result.now.node) ≡ expression_data c.args.spans c.args.names.now (box_value c.in-Parenthesized.expression) = search rules in
    let steps = then l c.begin.ensures (then l (value_is place0 c.print_expression_at.ensures) (then l c.text_at.ensures (then l (span_added c.args.spans expression_node c.args.span (c.span.ensures expression_node)) c.close.ensures))) in
    parenthesized_printed c.args.spans c.args.names.now c.args.span c.args.expression.now c.in-Parenthesized.expression (search rules) steps

pub print_expression-returns-in-NamedComponent : goal.print_expression-returns-in-NamedComponent
print_expression-returns-in-NamedComponent g t c =
    let l = lawful g.met.S.Sink.none g.met.S.Sink.more in
    let place0 : expression_at c.args.spans c.args.names.now c.deref-in-NamedComponent-2.result.now.span (expression_view c.deref-in-NamedComponent.result.now.node) ≡ expression_data c.args.spans c.args.names.now (box_value c.in-NamedComponent.base) = search rules in
    let steps = then l c.begin-in-NamedComponent.ensures (then l (value_is place0 c.print_expression_at-in-NamedComponent.ensures) (then l c.text_at-in-NamedComponent.ensures (then l (text_is c.as_str.ensures.value c.text_at-in-NamedComponent-2.ensures) (then l (span_added c.args.spans expression_node c.args.span (c.span-in-NamedComponent.ensures expression_node)) c.close-in-NamedComponent.ensures)))) in
    component_printed c.args.spans c.args.names.now c.args.span c.args.expression.now c.in-NamedComponent.base c.in-NamedComponent.component (search rules) steps

pub print_expression-returns-in-Indexing : goal.print_expression-returns-in-Indexing
print_expression-returns-in-Indexing g t c =
    let l = lawful g.met.S.Sink.none g.met.S.Sink.more in
    let place0 : expression_at c.args.spans c.args.names.now c.deref-in-Indexing-2.result.now.span (expression_view c.deref-in-Indexing.result.now.node) ≡ expression_data c.args.spans c.args.names.now (box_value c.in-Indexing.base) = search rules in
    let place1 : expression_at c.args.spans c.args.names.now c.deref-in-Indexing-4.result.now.span (expression_view c.deref-in-Indexing-3.result.now.node) ≡ expression_data c.args.spans c.args.names.now (box_value c.in-Indexing.index) = search rules in
    let steps = then l c.begin-in-Indexing.ensures (then l (value_is place0 c.print_expression_at-in-Indexing.ensures) (then l (value_is place1 c.print_expression_at-in-Indexing-2.ensures) (then l c.text_at-in-Indexing.ensures (then l (span_added c.args.spans expression_node c.args.span (c.span-in-Indexing.ensures expression_node)) c.close-in-Indexing.ensures)))) in
    indexing_printed c.args.spans c.args.names.now c.args.span c.args.expression.now c.in-Indexing.base c.in-Indexing.index (search rules) steps

pub print_expression-returns-in-Unary : goal.print_expression-returns-in-Unary
print_expression-returns-in-Unary g t c =
    let l = lawful g.met.S.Sink.none g.met.S.Sink.more in
    let place0 : expression_at c.args.spans c.args.names.now c.deref-in-Unary-2.result.now.span (expression_view c.deref-in-Unary.result.now.node) ≡ expression_data c.args.spans c.args.names.now (box_value c.in-Unary.operand) = search rules in
    let steps = then l c.begin-in-Unary.ensures (then l (value_is place0 c.print_expression_at-in-Unary.ensures) (then l c.text_at-in-Unary.ensures (then l c.text_at-in-Unary-2.ensures (then l (span_added c.args.spans expression_node c.args.span (c.span-in-Unary.ensures expression_node)) c.close-in-Unary.ensures)))) in
    unary_printed c.args.spans c.args.names.now c.args.span c.args.expression.now c.in-Unary.operator c.in-Unary.operand _ (search rules) c.unary_word.ensures steps

pub print_expression-returns-in-Binary : goal.print_expression-returns-in-Binary
print_expression-returns-in-Binary g t c =
    let l = lawful g.met.S.Sink.none g.met.S.Sink.more in
    let place0 : expression_at c.args.spans c.args.names.now c.deref-in-Binary-2.result.now.span (expression_view c.deref-in-Binary.result.now.node) ≡ expression_data c.args.spans c.args.names.now (box_value c.in-Binary.left) = search rules in
    let place1 : expression_at c.args.spans c.args.names.now c.deref-in-Binary-4.result.now.span (expression_view c.deref-in-Binary-3.result.now.node) ≡ expression_data c.args.spans c.args.names.now (box_value c.in-Binary.right) = search rules in
    let steps = then l c.begin-in-Binary.ensures (then l c.text_at-in-Binary.ensures (then l (value_is place0 c.print_expression_at-in-Binary.ensures) (then l c.text_at-in-Binary-2.ensures (then l (value_is place1 c.print_expression_at-in-Binary-2.ensures) (then l (span_added c.args.spans expression_node c.args.span (c.span-in-Binary.ensures expression_node)) c.close-in-Binary.ensures))))) in
    binary_printed c.args.spans c.args.names.now c.args.span c.args.expression.now c.in-Binary.operator c.in-Binary.left c.in-Binary.right _ (search rules) c.binary_word.ensures steps

pub print_expression-returns-in-FunctionCall : goal.print_expression-returns-in-FunctionCall
print_expression-returns-in-FunctionCall g t c =
    let l = lawful g.met.S.Sink.none g.met.S.Sink.more in
    let steps = then l c.begin-in-FunctionCall.ensures (then l c.print_arguments.ensures (then l c.text_at-in-FunctionCall.ensures (then l (span_added c.args.spans expression_node c.args.span (c.span-in-FunctionCall.ensures expression_node)) (then l c.print_type_at.ensures c.close-in-FunctionCall.ensures)))) in
    call_printed c.args.spans c.args.names.now c.args.span c.args.expression.now c.in-FunctionCall.call _ _ (search rules) refl refl steps

pub print_expression-returns-in-Literal : goal.print_expression-returns-in-Literal
print_expression-returns-in-Literal g t c = literal_printed c.args.spans c.args.names.now c.args.span c.args.expression.now c.in-Literal.literal (search rules) c.print_literal.ensures

pub print_expression-returns-in-TypeOrIdentifier : goal.print_expression-returns-in-TypeOrIdentifier
print_expression-returns-in-TypeOrIdentifier g t c = type_printed c.args.spans c.args.names.now c.args.span c.args.expression.now c.in-TypeOrIdentifier.ty (search rules) c.print_type.ensures

pub print_expression_at-returns : goal.print_expression_at-returns
print_expression_at-returns g t c =
    let l = lawful g.met.S.Sink.none g.met.S.Sink.more in
    let steps = keyed l c.key.ensures c.print_expression.ensures in
    steps

pub print_expressions-loop-node-init : goal.print_expressions-loop-node-init
print_expressions-loop-node-init g t c =
    let l = lawful g.met.S.Sink.none g.met.S.Sink.more in
    no_nodes_before c.args.spans c.args.names.now an_expression expression_tree l c.deref-node-items.result.now c.begin_list.new.self

pub print_expressions-loop-node-preserved : goal.print_expressions-loop-node-preserved
print_expressions-loop-node-preserved g t c =
    let l = lawful g.met.S.Sink.none g.met.S.Sink.more in
    one_node_more c.args.spans c.args.names.now an_expression expression_tree l c.deref-node-items.result.now c.loop-node.node-index c.node-item.result _ c.loop-node-test.true c.node-item.is (sym (placed-value c.args.spans c.args.names.now an_expression expression_view expression_node c.node-item.result)) c.loop-node.invariant c.print_expression.ensures

pub print_expressions-returns : goal.print_expressions-returns
print_expressions-returns g t c =
    let l = lawful g.met.S.Sink.none g.met.S.Sink.more in
    all_nodes_before c.args.spans c.args.names.now an_expression expression_tree l c.deref-node-items.result.now c.args.nodes.now.items c.loop-node.node-index c.deref-node-items.ensures.value c.loop-node-test.false c.begin_list.ensures c.loop-node.invariant c.close_list.ensures

pub print_type_arguments-loop-argument-init : goal.print_type_arguments-loop-argument-init
print_type_arguments-loop-argument-init g t c =
    let l = lawful g.met.S.Sink.none g.met.S.Sink.more in
    no_nodes_before c.args.spans c.args.names.now a_template_argument argument_view l c.deref-argument-items.result.now c.begin_list.new.self

pub print_type_arguments-loop-argument-preserved : goal.print_type_arguments-loop-argument-preserved
print_type_arguments-loop-argument-preserved g t c =
    let l = lawful g.met.S.Sink.none g.met.S.Sink.more in
    one_node_more c.args.spans c.args.names.now a_template_argument argument_view l c.deref-argument-items.result.now c.loop-argument.argument-index c.argument-item.result _ c.loop-argument-test.true c.argument-item.is (sym (ap (value_in c.args.spans c.args.names.now (node a_template_argument)) (view_argument c.argument-item.result) ∙ written-argument c.args.spans c.args.names.now (out-TemplateArg c.argument-item.result).expression)) c.loop-argument.invariant c.print_expression.ensures

pub print_type_arguments-returns : goal.print_type_arguments-returns
print_type_arguments-returns g t c =
    let l = lawful g.met.S.Sink.none g.met.S.Sink.more in
    all_nodes_before c.args.spans c.args.names.now a_template_argument argument_view l c.deref-argument-items.result.now c.args.arguments.now.items c.loop-argument.argument-index c.deref-argument-items.ensures.value c.loop-argument-test.false c.begin_list.ensures c.loop-argument.invariant c.close_list.ensures

pub print_arguments-returns-then-not-is_empty : goal.print_arguments-returns-then-not-is_empty
print_arguments-returns-then-not-is_empty g t c =
    let l = lawful g.met.S.Sink.none g.met.S.Sink.more in
    some_nodes c.args.spans c.args.names.now an_expression expression_tree l c.args.nodes.now.items (codes "args") (search (rules, common_steps)) c.key.ensures c.print_expressions.ensures

pub print_arguments-returns-else-not-is_empty : goal.print_arguments-returns-else-not-is_empty
print_arguments-returns-else-not-is_empty g t c =
    let l = lawful g.met.S.Sink.none g.met.S.Sink.more in
    no_nodes c.args.spans c.args.names.now an_expression expression_tree c.args.nodes.now.items (codes "args") l c.args.out.now (search (rules, common_steps))

pub print_type-returns-in-None : goal.print_type-returns-in-None
print_type-returns-in-None g t c = plain_type c.args.spans c.args.names.now c.args.span c.args.ty.now (search rules) c.print_plain_type.ensures

pub print_type-returns-in-Some : goal.print_type-returns-in-Some
print_type-returns-in-Some g t c =
    let l = lawful g.met.S.Sink.none g.met.S.Sink.more in
    let steps = then l c.begin.ensures (then l (keyed l c.key.ensures c.print_type_arguments.ensures) (then l c.text_at.ensures (then l (option_added c.args.spans c.args.names.now (codes "path") (leaf a_path) boxed_path _ c.print_optional_path.ensures) (then l (span_added c.args.spans expression_node c.args.span (c.span.ensures expression_node)) c.close.ensures)))) in
    argued_type c.args.spans c.args.names.now c.args.span c.args.ty.now c.in-Some.arguments _ (search rules) c.spelling.ensures steps

pub print_type_at-returns : goal.print_type_at-returns
print_type_at-returns g t c =
    let l = lawful g.met.S.Sink.none g.met.S.Sink.more in
    let steps = keyed l c.key.ensures (told (ap events (nowhere c.args.spans (value_in c.args.spans c.args.names.now (node a_type) (type_view c.args.ty.now)))) c.print_type.ensures) in
    steps
