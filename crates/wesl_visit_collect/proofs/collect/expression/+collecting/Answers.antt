use Rattle.wesl_visit_collect.proofs.Adds.{beside, entered, hollow, inside, passed, placed_at, viewed, walked_all, walked_next, walked_none}
use Rattle.wesl_visit_collect.proofs.Seen.{seen_expression, seen_type}
use Rattle.wesl_visit_collect.proofs.Parts.{literal_hollow, type_none, type_some}
use Rattle.wesl_tree_syntax.specs.View.{expression_tree, expression_view}
use Rattle.wesl_visit_collect.proofs.collect.expression.+collecting.Goals as goal
use Rattle.std.proofs.Common.{ap, arith, refl, ◌∙◌}
use Rattle.wesl_tree_syntax.specs.Tree.{binary, call, call_expression, indexing, kind, list, named_component, parenthesized, template_argument, type_or_identifier, unary}
use Rattle.wesl_tree_syntax.proofs.Views.{view_argument, view_binary, view_call, view_call_expression, view_indexing, view_literal, view_name, view_named, view_parenthesized, view_unary}

pub at_expression-returns-then-enter : goal.at_expression-returns-then-enter
at_expression-returns-then-enter g t c = entered (seen_expression g.T.Kind.sought c.args.node.now) c.if-enter.true c.enter.ensures c.in_expression.ensures

pub at_expression-returns-else-enter : goal.at_expression-returns-else-enter
at_expression-returns-else-enter g t c = passed (seen_expression g.T.Kind.sought c.args.node.now) c.if-enter.false c.enter.ensures

pub at_type-returns-then-enter : goal.at_type-returns-then-enter
at_type-returns-then-enter g t c = entered (seen_type g.T.Kind.sought c.args.ty.now) c.if-enter.true c.enter.ensures c.in_type.ensures

pub at_type-returns-else-enter : goal.at_type-returns-else-enter
at_type-returns-else-enter g t c = passed (seen_type g.T.Kind.sought c.args.ty.now) c.if-enter.false c.enter.ensures

pub in_call-returns : goal.in_call-returns
in_call-returns g t c = viewed (view_call c.args.call.now) (inside (kind call) refl (λ f. refl) (beside c.at_type.ensures (inside (kind list) refl (λ f. refl) c.at_expressions.ensures)))

pub at_expressions-loop-node-init : goal.at_expressions-loop-node-init
at_expressions-loop-node-init g t c = walked_none

pub at_expressions-returns : goal.at_expressions-returns
at_expressions-returns g t c = walked_all (omega arith) c.deref-node-items.ensures.value c.loop-node.invariant

pub in_arguments-loop-argument-init : goal.in_arguments-loop-argument-init
in_arguments-loop-argument-init g t c = walked_none

pub in_arguments-returns : goal.in_arguments-returns
in_arguments-returns g t c = walked_all (omega arith) c.deref-argument-items.ensures.value c.loop-argument.invariant

pub in_type-returns-in-None : goal.in_type-returns-in-None
in_type-returns-in-None g t c = type_none c.args.ty.now c.in-None.is

pub in_type-returns-in-Some : goal.in_type-returns-in-Some
in_type-returns-in-Some g t c = type_some c.args.ty.now c.in-Some.arguments c.in-Some.is c.in_arguments.ensures

pub in_arguments-loop-argument-preserved : goal.in_arguments-loop-argument-preserved
in_arguments-loop-argument-preserved g t c =
    walked_next c.argument-item.result (omega arith) c.argument-item.is c.loop-argument.invariant (viewed (view_argument c.argument-item.result) (inside (kind template_argument) refl (λ f. refl) c.at_expression.ensures))

pub at_expressions-loop-node-preserved : goal.at_expressions-loop-node-preserved
at_expressions-loop-node-preserved g t c =
    walked_next c.node-item.result (omega arith) c.node-item.is c.loop-node.invariant (entered (seen_expression g.T.Kind.sought c.node-item.result) c.if-not-enter.false c.enter.ensures c.in_expression.ensures)

pub at_expressions-loop-node-preserved-then-not-enter : goal.at_expressions-loop-node-preserved-then-not-enter
at_expressions-loop-node-preserved-then-not-enter g t c =
    walked_next c.node-item.result (omega arith) c.node-item.is c.loop-node.invariant (passed (seen_expression g.T.Kind.sought c.node-item.result) c.if-not-enter.true c.enter.ensures)

pub in_expression-returns-in-Literal : goal.in_expression-returns-in-Literal
in_expression-returns-in-Literal g t c = viewed (ap expression_view c.in-Literal.is ∙ view_literal c.in-Literal.field-0) (hollow _ (literal_hollow c.in-Literal.field-0))

pub in_expression-returns-in-Parenthesized : goal.in_expression-returns-in-Parenthesized
in_expression-returns-in-Parenthesized g t c =
    viewed (ap expression_view c.in-Parenthesized.is ∙ view_parenthesized c.in-Parenthesized.expression) (inside (kind parenthesized) refl (λ f. refl) (placed_at expression_tree c.deref.ensures c.at_expression.ensures))

pub in_expression-returns-in-NamedComponent : goal.in_expression-returns-in-NamedComponent
in_expression-returns-in-NamedComponent g t c =
    viewed (ap expression_view c.in-NamedComponent.is ∙ view_named c.in-NamedComponent.base _)
    (inside (kind named_component) refl (λ f. refl) (beside (placed_at expression_tree c.deref-in-NamedComponent.ensures c.at_expression-in-NamedComponent.ensures) (hollow _ refl)))

pub in_expression-returns-in-Indexing : goal.in_expression-returns-in-Indexing
in_expression-returns-in-Indexing g t c =
    viewed (ap expression_view c.in-Indexing.is ∙ view_indexing c.in-Indexing.base c.in-Indexing.index) (inside (kind indexing) refl (λ f. refl)
    (beside (placed_at expression_tree c.deref-in-Indexing.ensures c.at_expression-in-Indexing.ensures) (placed_at expression_tree c.deref-in-Indexing-2.ensures c.at_expression-in-Indexing-2.ensures)))

pub in_expression-returns-in-Unary : goal.in_expression-returns-in-Unary
in_expression-returns-in-Unary g t c =
    viewed (ap expression_view c.in-Unary.is ∙ view_unary c.in-Unary.operator c.in-Unary.operand) (inside (unary c.in-Unary.operator) refl (λ f. refl) (placed_at expression_tree c.deref-in-Unary.ensures c.at_expression-in-Unary.ensures))

pub in_expression-returns-in-Binary : goal.in_expression-returns-in-Binary
in_expression-returns-in-Binary g t c =
    viewed (ap expression_view c.in-Binary.is ∙ view_binary c.in-Binary.operator c.in-Binary.left c.in-Binary.right) (inside (binary c.in-Binary.operator) refl (λ f. refl)
    (beside (placed_at expression_tree c.deref-in-Binary.ensures c.at_expression-in-Binary.ensures) (placed_at expression_tree c.deref-in-Binary-2.ensures c.at_expression-in-Binary-2.ensures)))

pub in_expression-returns-in-FunctionCall : goal.in_expression-returns-in-FunctionCall
in_expression-returns-in-FunctionCall g t c = viewed (ap expression_view c.in-FunctionCall.is ∙ view_call_expression _) (inside (kind call_expression) refl (λ f. refl) c.in_call.ensures)

pub in_expression-returns-in-TypeOrIdentifier : goal.in_expression-returns-in-TypeOrIdentifier
in_expression-returns-in-TypeOrIdentifier g t c = viewed (ap expression_view c.in-TypeOrIdentifier.is ∙ view_name _) (inside (kind type_or_identifier) refl (λ f. refl) c.at_type.ensures)
