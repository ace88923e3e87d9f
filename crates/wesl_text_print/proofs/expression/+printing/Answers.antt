use Rattle.std.proofs.Common.{◌≡◌, ◌<◌, [], ◌∷◌, Some, None, length, option_map, rules, sym, ap, ◌∙◌}
use Rattle.std.proofs.lemmas.Grind.{common_steps}
use Rattle.std.specs.Box.{box_value}
use Rattle.wesl_text_form.specs.Productions.{an_argument, an_expression}
use Rattle.wesl_text_form.specs.Spelling.{signed, trailing}
use Rattle.wesl_tree_syntax.specs.View.{argument_view, expression_tree}
use Rattle.wesl_tree_syntax.specs.declared.span.Spanned.{Spanned}
use Rattle.wesl_tree_syntax.specs.declared.expression.Expression.{Expression, Literal, Parenthesized, NamedComponent, Indexing, Unary, Binary, FunctionCall as Call, TypeOrIdentifier}
use Rattle.wesl_tree_syntax.specs.declared.expression.TypeExpression.{out-TypeExpression}
use Rattle.wesl_text_print.specs.Printing.{name_slots, only_if}
use Rattle.wesl_text_print.proofs.Adding.{after_blank, lawful, none, one, then, told}
use Rattle.wesl_text_print.proofs.Expressions.{argued_printed, argument_printed, argument_shows, base_slots, binary_printed, call_parts_printed, call_printed, component_printed, expr, indexing_printed, literal_printed, no_list, node, node_shows, operand_slots, left_slots, right_slots, parenthesized_printed, plain_printed, some_list, type_printed, unary_printed}
use Rattle.wesl_text_print.proofs.Lists.{all_commas_before, no_commas_before, node_slots, one_comma_more, separate_is}
use Rattle.wesl_text_print.proofs.expression.+printing.Goals as goal

pub print_expression-returns-in-Literal : goal.print_expression-returns-in-Literal
print_expression-returns-in-Literal g t c =
    let is : c.args.expression.now ≡ Literal c.in-Literal.literal = search rules in
    told (literal_printed c.args.names.now c.args.expression.now c.in-Literal.literal is) c.print_literal.ensures

pub print_expression-returns-in-Parenthesized : goal.print_expression-returns-in-Parenthesized
print_expression-returns-in-Parenthesized g t c =
    let l = lawful g.met.S.TokenSink.none g.met.S.TokenSink.more in
    let is : c.args.expression.now ≡ Parenthesized c.in-Parenthesized.expression = search rules in
    let inner : c.deref.result.now ≡ box_value c.in-Parenthesized.expression = search rules in
    told (parenthesized_printed c.args.names.now c.args.expression.now c.in-Parenthesized.expression is)
    (then l (one l c.symbol.ensures) (then l (told (ap (node c.args.names.now) inner) c.print_expression.ensures) (then l (one l c.symbol-in-Parenthesized.ensures) (none l))))

pub print_expression-returns-in-NamedComponent : goal.print_expression-returns-in-NamedComponent
print_expression-returns-in-NamedComponent g t c =
    let l = lawful g.met.S.TokenSink.none g.met.S.TokenSink.more in
    let is : c.args.expression.now ≡ NamedComponent c.in-NamedComponent.base c.in-NamedComponent.component = search rules in
    let base : c.deref-in-NamedComponent.result.now ≡ box_value c.in-NamedComponent.base = search rules in
    told (component_printed c.args.names.now c.args.expression.now c.in-NamedComponent.base c.in-NamedComponent.component is)
    (then l (told (ap (λ (e : Spanned Expression). base_slots c.args.names.now e.node) base) c.print_base.ensures) (then l (one l c.symbol-in-NamedComponent.ensures) (then l (told (ap name_slots c.as_str.ensures.value) (one l c.name.ensures)) (none l))))

pub print_expression-returns-in-Indexing : goal.print_expression-returns-in-Indexing
print_expression-returns-in-Indexing g t c =
    let l = lawful g.met.S.TokenSink.none g.met.S.TokenSink.more in
    let is : c.args.expression.now ≡ Indexing c.in-Indexing.base c.in-Indexing.index = search rules in
    let base : c.deref-in-Indexing.result.now ≡ box_value c.in-Indexing.base = search rules in
    let index : c.deref-in-Indexing-2.result.now ≡ box_value c.in-Indexing.index = search rules in
    told (indexing_printed c.args.names.now c.args.expression.now c.in-Indexing.base c.in-Indexing.index is)
    (then l (told (ap (λ (e : Spanned Expression). base_slots c.args.names.now e.node) base) c.print_base-in-Indexing.ensures) (then l (one l c.symbol-in-Indexing.ensures) (then l (told (ap (node c.args.names.now) index) c.print_expression-in-Indexing.ensures) (then l (one l c.symbol-in-Indexing-2.ensures) (none l)))))

pub print_expression-returns-in-Unary : goal.print_expression-returns-in-Unary
print_expression-returns-in-Unary g t c =
    let l = lawful g.met.S.TokenSink.none g.met.S.TokenSink.more in
    let is : c.args.expression.now ≡ Unary c.in-Unary.operator c.in-Unary.operand = search rules in
    let operand : c.deref-in-Unary.result.now ≡ box_value c.in-Unary.operand = search rules in
    told (unary_printed c.args.names.now c.args.expression.now c.in-Unary.operator c.in-Unary.operand is)
    (then l (told (ap (λ s. Some (signed s ∷ [])) c.unary_symbol.ensures) (one l c.symbol-in-Unary.ensures)) (then l (told (ap (λ (e : Spanned Expression). operand_slots c.args.names.now e.node) operand) c.print_operand.ensures) (none l)))

pub print_expression-returns-in-Binary : goal.print_expression-returns-in-Binary
print_expression-returns-in-Binary g t c =
    let l = lawful g.met.S.TokenSink.none g.met.S.TokenSink.more in
    let is : c.args.expression.now ≡ Binary c.in-Binary.operator c.in-Binary.left c.in-Binary.right = search rules in
    let left : c.deref-in-Binary.result.now ≡ box_value c.in-Binary.left = search rules in
    let right : c.deref-in-Binary-2.result.now ≡ box_value c.in-Binary.right = search rules in
    told (binary_printed c.args.names.now c.args.expression.now c.in-Binary.operator c.in-Binary.left c.in-Binary.right is)
    (then l (told (ap (λ (e : Spanned Expression). left_slots c.args.names.now c.in-Binary.operator e.node) left) c.print_left.ensures) (after_blank l c.space.ensures (then l (told (ap (λ s. Some (signed s ∷ [])) c.binary_symbol.ensures) (one l c.symbol-in-Binary.ensures)) (after_blank l c.space-in-Binary.ensures (then l (told (ap (λ (e : Spanned Expression). right_slots c.args.names.now c.in-Binary.operator e.node) right) c.print_right.ensures) (none l))))))

pub print_expression-returns-in-FunctionCall : goal.print_expression-returns-in-FunctionCall
print_expression-returns-in-FunctionCall g t c =
    let is : c.args.expression.now ≡ Call c.in-FunctionCall.call = search rules in
    told (call_printed c.args.names.now c.args.expression.now c.in-FunctionCall.call is) c.print_call.ensures

pub print_expression-returns-in-TypeOrIdentifier : goal.print_expression-returns-in-TypeOrIdentifier
print_expression-returns-in-TypeOrIdentifier g t c =
    let is : c.args.expression.now ≡ TypeOrIdentifier c.in-TypeOrIdentifier.ty = search rules in
    told (type_printed c.args.names.now c.args.expression.now c.in-TypeOrIdentifier.ty is) c.print_type.ensures

pub print_base-returns-then-is_primary : goal.print_base-returns-then-is_primary
print_base-returns-then-is_primary g t c =
    told (ap (λ b. only_if b (expr c.args.names.now c.args.base.now)) (sym c.if-is_primary.true ∙ c.is_primary.ensures)) c.print_expression.ensures

pub print_base-returns-else-is_primary : goal.print_base-returns-else-is_primary
print_base-returns-else-is_primary g t c =
    let l = lawful g.met.S.TokenSink.none g.met.S.TokenSink.more in
    told (ap (λ b. only_if b (expr c.args.names.now c.args.base.now)) (sym c.if-is_primary.false ∙ c.is_primary.ensures)) (one l c.refuse.ensures)

pub print_operand-returns-then-is_tight : goal.print_operand-returns-then-is_tight
print_operand-returns-then-is_tight g t c =
    told (ap (λ b. only_if b (expr c.args.names.now c.args.operand.now)) (sym c.if-is_tight.true ∙ c.is_tight.ensures)) c.print_expression.ensures

pub print_operand-returns-else-is_tight : goal.print_operand-returns-else-is_tight
print_operand-returns-else-is_tight g t c =
    let l = lawful g.met.S.TokenSink.none g.met.S.TokenSink.more in
    told (ap (λ b. only_if b (expr c.args.names.now c.args.operand.now)) (sym c.if-is_tight.false ∙ c.is_tight.ensures)) (one l c.refuse.ensures)

pub print_left-returns-then-takes_left : goal.print_left-returns-then-takes_left
print_left-returns-then-takes_left g t c =
    told (ap (λ b. only_if b (expr c.args.names.now c.args.operand.now)) (sym c.if-takes_left.true ∙ c.takes_left.ensures)) c.print_expression.ensures

pub print_left-returns-else-takes_left : goal.print_left-returns-else-takes_left
print_left-returns-else-takes_left g t c =
    let l = lawful g.met.S.TokenSink.none g.met.S.TokenSink.more in
    told (ap (λ b. only_if b (expr c.args.names.now c.args.operand.now)) (sym c.if-takes_left.false ∙ c.takes_left.ensures)) (one l c.refuse.ensures)

pub print_right-returns-then-takes_right : goal.print_right-returns-then-takes_right
print_right-returns-then-takes_right g t c =
    told (ap (λ b. only_if b (expr c.args.names.now c.args.operand.now)) (sym c.if-takes_right.true ∙ c.takes_right.ensures)) c.print_expression.ensures

pub print_right-returns-else-takes_right : goal.print_right-returns-else-takes_right
print_right-returns-else-takes_right g t c =
    let l = lawful g.met.S.TokenSink.none g.met.S.TokenSink.more in
    told (ap (λ b. only_if b (expr c.args.names.now c.args.operand.now)) (sym c.if-takes_right.false ∙ c.takes_right.ensures)) (one l c.refuse.ensures)

pub print_call-returns : goal.print_call-returns
print_call-returns g t c =
    let l = lawful g.met.S.TokenSink.none g.met.S.TokenSink.more in
    told (call_parts_printed c.args.names.now c.args.call.now)
    (then l c.print_type.ensures (then l (one l c.symbol.ensures) (then l c.print_expressions.ensures (then l (one l c.symbol-2.ensures) (none l)))))

pub print_expressions-loop-node-init : goal.print_expressions-loop-node-init
print_expressions-loop-node-init g t c =
    let l = lawful g.met.S.TokenSink.none g.met.S.TokenSink.more in
    no_commas_before (node_slots c.args.names.now an_expression expression_tree) l c.deref-node-items.result.now c.args.out.now

pub print_expressions-loop-node-preserved : goal.print_expressions-loop-node-preserved
print_expressions-loop-node-preserved g t c =
    let l = lawful g.met.S.TokenSink.none g.met.S.TokenSink.more in
    one_comma_more (node_slots c.args.names.now an_expression expression_tree) l c.deref-node-items.result.now c.loop-node.node-index c.node-item.result c.loop-node.is_first c.loop-node-test.true c.node-item.is c.loop-node.invariant c.print_comma.ensures c.print_expression.ensures

pub print_expressions-returns : goal.print_expressions-returns
print_expressions-returns g t c =
    let l = lawful g.met.S.TokenSink.none g.met.S.TokenSink.more in
    told (ap (option_map trailing) (separate_is c.args.names.now an_expression expression_tree c.args.nodes.now.items))
    (all_commas_before (node_slots c.args.names.now an_expression expression_tree) l (node_shows c.args.names.now) c.deref-node-items.result.now c.args.nodes.now.items c.loop-node.node-index c.loop-node.is_first c.deref-node-items.ensures.value c.loop-node-test.false c.loop-node.invariant c.end_commas.ensures)

pub print_template_arguments-loop-argument-init : goal.print_template_arguments-loop-argument-init
print_template_arguments-loop-argument-init g t c =
    let l = lawful g.met.S.TokenSink.none g.met.S.TokenSink.more in
    no_commas_before (node_slots c.args.names.now an_argument argument_view) l c.deref-argument-items.result.now c.args.out.now

pub print_template_arguments-loop-argument-preserved : goal.print_template_arguments-loop-argument-preserved
print_template_arguments-loop-argument-preserved g t c =
    let l = lawful g.met.S.TokenSink.none g.met.S.TokenSink.more in
    one_comma_more (node_slots c.args.names.now an_argument argument_view) l c.deref-argument-items.result.now c.loop-argument.argument-index c.argument-item.result c.loop-argument.is_first c.loop-argument-test.true c.argument-item.is c.loop-argument.invariant c.print_comma.ensures (told (argument_printed c.args.names.now c.argument-item.result) c.print_expression.ensures)

pub print_template_arguments-returns : goal.print_template_arguments-returns
print_template_arguments-returns g t c =
    let l = lawful g.met.S.TokenSink.none g.met.S.TokenSink.more in
    told (ap (option_map trailing) (separate_is c.args.names.now an_argument argument_view c.args.arguments.now.items))
    (all_commas_before (node_slots c.args.names.now an_argument argument_view) l (argument_shows c.args.names.now) c.deref-argument-items.result.now c.args.arguments.now.items c.loop-argument.argument-index c.loop-argument.is_first c.deref-argument-items.ensures.value c.loop-argument-test.false c.loop-argument.invariant c.end_commas.ensures)

pub print_type-returns-in-Some : goal.print_type-returns-in-Some
print_type-returns-in-Some g t c =
    let l = lawful g.met.S.TokenSink.none g.met.S.TokenSink.more in
    let is : (out-TypeExpression c.args.ty.now).template_args ≡ Some c.in-Some.arguments = search rules in
    told (argued_printed c.args.names.now c.args.ty.now c.in-Some.arguments is) (then l c.print_path_and_name.ensures c.print_template_list.ensures)

pub print_type-returns-in-None : goal.print_type-returns-in-None
print_type-returns-in-None g t c =
    let is : (out-TypeExpression c.args.ty.now).template_args ≡ None = search rules in
    told (plain_printed c.args.names.now c.args.ty.now is) c.print_path_and_name.ensures

pub print_template_list-returns-then-is_empty : goal.print_template_list-returns-then-is_empty
print_template_list-returns-then-is_empty g t c =
    let l = lawful g.met.S.TokenSink.none g.met.S.TokenSink.more in
    let empty : c.args.arguments.now.items ≡ [] = search (rules, common_steps) in
    told (no_list c.args.names.now c.args.arguments.now.items empty) (one l c.refuse.ensures)

pub print_template_list-returns-else-is_empty : goal.print_template_list-returns-else-is_empty
print_template_list-returns-else-is_empty g t c =
    let l = lawful g.met.S.TokenSink.none g.met.S.TokenSink.more in
    let some : 0 < length c.args.arguments.now.items = search (rules, common_steps) in
    told (some_list c.args.names.now c.args.arguments.now.items some) (then l (one l c.open_list.ensures) (then l c.print_template_arguments.ensures (one l c.close_list.ensures)))
