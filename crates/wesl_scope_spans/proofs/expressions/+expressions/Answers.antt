use Rattle.std.proofs.Common.{◌∙◌, ap, arith, refl}
use Rattle.std.specs.Prelude.{None, Some}
use Rattle.wesl_tree_syntax.specs.Tree.{absent, at, binary, call, call_expression, end, expression_node, indexing, kind, leaf, list, literal, named_component, before, parenthesized, present, template_argument, type_expression, type_or_identifier, unary}
use Rattle.wesl_tree_syntax.specs.View.{boxed_path, expression_tree, expression_view, literal_tree, optional, text_tree}
use Rattle.wesl_tree_syntax.specs.declared.expression.TypeExpression.{out-TypeExpression}
use Rattle.wesl_scope_spans.proofs.Plain.{boxed_path_plain, literal_plain}
use Rattle.wesl_scope_spans.proofs.Stepped.{walked_all, walked_next, walked_none}
use Rattle.wesl_scope_spans.proofs.Steps.{beside, beyond, inside, met, none, placed_at, viewed}
use Rattle.wesl_scope_spans.proofs.expressions.+expressions.Goals as goal
use Rattle.wesl_tree_syntax.proofs.Views.{type_of, view_argument, view_binary, view_call, view_call_expression, view_indexing, view_literal, view_name, view_named, view_parenthesized, view_unary}

pub in_expression-returns-in-Literal : goal.in_expression-returns-in-Literal
in_expression-returns-in-Literal t c =
    let l = c.in-Literal.field-0 in
    viewed (ap expression_view c.in-Literal.is ∙ view_literal l) (inside (kind literal) refl (none (before (literal_tree l) end) (literal_plain c.args.round l)))

pub in_expression-returns-in-Parenthesized : goal.in_expression-returns-in-Parenthesized
in_expression-returns-in-Parenthesized t c =
    let v = c.in-Parenthesized in
    viewed (ap expression_view v.is ∙ view_parenthesized v.expression) (inside (kind parenthesized) refl (placed_at expression_tree c.deref.ensures (c.in_node.ensures c.args.round)))

pub in_expression-returns-in-NamedComponent : goal.in_expression-returns-in-NamedComponent
in_expression-returns-in-NamedComponent t c =
    let v = c.in-NamedComponent in
    viewed (ap expression_view v.is ∙ view_named v.base v.component) (inside (kind named_component) refl
    (beside (placed_at expression_tree c.deref-in-NamedComponent.ensures (c.in_node-in-NamedComponent.ensures c.args.round)) (none (before (text_tree v.component) end) refl)))

pub in_expression-returns-in-Indexing : goal.in_expression-returns-in-Indexing
in_expression-returns-in-Indexing t c =
    let v = c.in-Indexing in
    viewed (ap expression_view v.is ∙ view_indexing v.base v.index) (inside (kind indexing) refl
    (beside (placed_at expression_tree c.deref-in-Indexing.ensures (c.in_node-in-Indexing.ensures c.args.round)) (placed_at expression_tree c.deref-in-Indexing-2.ensures (c.in_node-in-Indexing-2.ensures c.args.round))))

pub in_expression-returns-in-Unary : goal.in_expression-returns-in-Unary
in_expression-returns-in-Unary t c =
    let v = c.in-Unary in
    viewed (ap expression_view v.is ∙ view_unary v.operator v.operand) (inside (unary v.operator) refl (placed_at expression_tree c.deref-in-Unary.ensures (c.in_node-in-Unary.ensures c.args.round)))

pub in_expression-returns-in-Binary : goal.in_expression-returns-in-Binary
in_expression-returns-in-Binary t c =
    let v = c.in-Binary in
    viewed (ap expression_view v.is ∙ view_binary v.operator v.left v.right) (inside (binary v.operator) refl
    (beside (placed_at expression_tree c.deref-in-Binary.ensures (c.in_node-in-Binary.ensures c.args.round)) (placed_at expression_tree c.deref-in-Binary-2.ensures (c.in_node-in-Binary-2.ensures c.args.round))))

pub in_expression-returns-in-FunctionCall : goal.in_expression-returns-in-FunctionCall
in_expression-returns-in-FunctionCall t c =
    viewed (ap expression_view c.in-FunctionCall.is ∙ view_call_expression c.in-FunctionCall.call) (inside (kind call_expression) refl c.in_call.ensures)

pub in_expression-returns-in-TypeOrIdentifier : goal.in_expression-returns-in-TypeOrIdentifier
in_expression-returns-in-TypeOrIdentifier t c =
    viewed (ap expression_view c.in-TypeOrIdentifier.is ∙ view_name c.in-TypeOrIdentifier.ty) (inside (kind type_or_identifier) refl c.in_type.ensures)

pub in_node-returns : goal.in_node-returns
in_node-returns t c s = inside (at expression_node _ _) refl c.in_expression.ensures

pub in_nodes-loop-node-init : goal.in_nodes-loop-node-init
in_nodes-loop-node-init t c s = walked_none

pub in_nodes-loop-node-preserved : goal.in_nodes-loop-node-preserved
in_nodes-loop-node-preserved t c s =
    walked_next c.node-item.result (omega arith) c.node-item.is (c.loop-node.invariant s) (inside (at expression_node _ _) refl c.in_expression.ensures)

pub in_nodes-returns : goal.in_nodes-returns
in_nodes-returns t c s = inside (kind list) refl (walked_all (omega arith) c.deref-node-items.ensures.value (c.loop-node.invariant s))

pub in_call-returns : goal.in_call-returns
in_call-returns t c = viewed (view_call c.args.call.now) (inside (kind call) refl (beside c.in_type.ensures (c.in_nodes.ensures c.args.round)))

pub in_type-returns-in-None : goal.in_type-returns-in-None
in_type-returns-in-None t c =
    let p = (out-TypeExpression c.args.ty.now).path in
    viewed (type_of c.args.ty.now None c.in-None.is) (inside (kind type_expression) refl
    (beyond (optional boxed_path p) (boxed_path_plain c.args.round p) (met c.meet.ensures (none (before (leaf (kind absent)) end) refl))))

pub in_type-returns-in-Some : goal.in_type-returns-in-Some
in_type-returns-in-Some t c =
    let p = (out-TypeExpression c.args.ty.now).path in
    viewed (type_of c.args.ty.now (Some c.in-Some.arguments) c.in-Some.is) (inside (kind type_expression) refl
    (beyond (optional boxed_path p) (boxed_path_plain c.args.round p) (met c.meet.ensures (inside (kind present) refl (c.in_arguments.ensures c.args.round)))))

pub in_arguments-loop-argument-init : goal.in_arguments-loop-argument-init
in_arguments-loop-argument-init t c s = walked_none

pub in_arguments-loop-argument-preserved : goal.in_arguments-loop-argument-preserved
in_arguments-loop-argument-preserved t c s =
    let a = c.argument-item.result in
    walked_next a (omega arith) c.argument-item.is (c.loop-argument.invariant s) (viewed (view_argument a) (inside (kind template_argument) refl (c.in_node.ensures s)))

pub in_arguments-returns : goal.in_arguments-returns
in_arguments-returns t c s = inside (kind list) refl (walked_all (omega arith) c.deref-argument-items.ensures.value (c.loop-argument.invariant s))
