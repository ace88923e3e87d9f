use Rattle.std.proofs.Common.{ap, arith, get_or, refl, rules, true, Some, ◌&&◌, ◌∙◌}
use Rattle.std.specs.Box.{with_value}
use Rattle.wesl_tree_syntax.specs.Tree.{absent, binary, call, call_expression, expression_node, indexing, kind, list, literal, named_component, parenthesized, present, reference, type_expression, type_or_identifier, unary}
use Rattle.wesl_tree_syntax.specs.View.{argument_view, expression_tree, expression_view}
use Rattle.wesl_tree_syntax.specs.declared.expression.TypeExpression.{out-TypeExpression}
use Rattle.wesl_text_form.specs.Operators.{is_tight, operator_class, primary, same_class, takes_left, takes_right}
use Rattle.wesl_text_guard.specs.Guards.{as_it_is, as_item, as_operand}
use Rattle.wesl_text_guard.proofs.Absorbed.{left_takes_primary, right_takes_primary}
use Rattle.wesl_text_guard.proofs.Listed.{all_guarded, list_asks, none_yet, passed_more}
use Rattle.wesl_text_guard.specs.Parentheses.{stands_listed}
use Rattle.wesl_text_guard.proofs.Operands.{operand_fits}
use Rattle.wesl_text_guard.proofs.Parts.{argument_listed, from, nothing, of_kind, of_operand, of_place, of_two, seen, then, untouched_ident, untouched_literal, untouched_path, untouched_text}
use Rattle.wesl_tree_renumber.proofs.Views.{view_binary, view_unary}
use Rattle.wesl_text_guard.proofs.guard.Guard.+expressions.Goals as goal
use Rattle.wesl_tree_syntax.proofs.Views.{view_call, view_call_expression, view_call_of, view_indexing, view_literal, view_name, view_named, view_parenthesized, view_type, view_type_of}

pub items-loop-node-init : goal.items-loop-node-init
items-loop-node-init t c = ((refl, λ k d h. refl), none_yet as_item expression_tree _ _)

pub items-loop-node-preserved : goal.items-loop-node-preserved
items-loop-node-preserved t c =
    let l = c.loop-node in
    let x = get_or l.node-items l.node-index c.node-item.result in
    let n = c.expression.new.expression in
    passed_more as_item expression_tree c.node-item.result c.fit.new.node (omega arith) l.invariant
    (operand_fits (λ k. true) refl x (record { node = n; span = x.span }) c.fit.new.node (of_place expression_view expression_node x n c.expression.ensures) c.stands-stands.result
    c.stands-stands.ensures c.fit.ensures.stays c.fit.ensures.encloses)

pub items-returns : goal.items-returns
items-returns t c =
    let l = c.loop-node in
    let lent = c.deref_mut-node-items in
    all_guarded as_item expression_tree list (list_asks expression_tree) c.args.nodes.now l.invariant.1 lent.ensures.value (omega (arith, l.auto.node-items, lent.ensures.len)) (omega arith)

pub arguments-loop-argument-init : goal.arguments-loop-argument-init
arguments-loop-argument-init t c = ((refl, λ k d h. refl), none_yet as_item argument_view _ _)

pub arguments-loop-argument-preserved : goal.arguments-loop-argument-preserved
arguments-loop-argument-preserved t c =
    let l = c.loop-argument in
    let x = get_or l.argument-items l.argument-index c.argument-item.result in
    passed_more as_item argument_view c.argument-item.result _ (omega arith) l.invariant
    (argument_listed x c.item.new.node c.item.ensures)

pub arguments-returns : goal.arguments-returns
arguments-returns t c =
    let l = c.loop-argument in
    let lent = c.deref_mut-argument-items in
    all_guarded as_item argument_view list (list_asks argument_view) c.args.arguments.now l.invariant.1 lent.ensures.value (omega (arith, l.auto.argument-items, lent.ensures.len)) (omega arith)

pub operand-returns : goal.operand-returns
operand-returns t c = λ takes p h.
    let x = c.args.node.now in
    let n = c.expression.new.expression in
    operand_fits takes p x (record { node = n; span = x.span }) c.fit.new.node (of_place expression_view expression_node x n c.expression.ensures) c.stands-stands.result
    (c.stands-stands.ensures ∙ ap (λ z. z && stands_listed c.args.self.now.comparisons (Some (expression_view x.node).label)) h) c.fit.ensures.stays c.fit.ensures.encloses

pub item-returns : goal.item-returns
item-returns t c = c.operand.ensures (λ k. true) refl refl

pub node-returns : goal.node-returns
node-returns t c = of_place expression_view expression_node c.args.node.now c.expression.new.expression c.expression.ensures

pub call-returns : goal.call-returns
call-returns t c = seen (view_call c.args.call.now) (view_call_of _ _) (of_kind call (λ b f. refl) (then c.type_expression.ensures (then c.items.ensures nothing)))

pub expression-returns-in-Literal : goal.expression-returns-in-Literal
expression-returns-in-Literal t c =
    let p = ap expression_view c.in-Literal.is ∙ view_literal _ in
    seen p p (of_kind literal (λ b f. refl) (then (untouched_literal _) nothing))

pub expression-returns-in-Parenthesized : goal.expression-returns-in-Parenthesized
expression-returns-in-Parenthesized t c =
    let b = c.in-Parenthesized in
    let d = c.node in
    seen (ap expression_view b.is ∙ view_parenthesized b.expression) (view_parenthesized (with_value b.expression d.new.node)) (of_kind parenthesized (λ b f. refl) (then (from expression_tree c.deref_mut.ensures.value d.ensures) nothing))

pub expression-returns-in-NamedComponent : goal.expression-returns-in-NamedComponent
expression-returns-in-NamedComponent t c =
    let b = c.in-NamedComponent in
    let d = c.operand in
    seen (ap expression_view b.is ∙ view_named b.base b.component) (view_named (with_value b.base d.new.node) b.component)
    (of_two (kind named_component) (as_operand (same_class primary)) as_it_is (λ b t u. refl) (from expression_tree c.deref_mut-in-NamedComponent.ensures.value (d.ensures (same_class primary) refl (search rules))) (untouched_text b.component (λ b. refl)))

pub expression-returns-in-Indexing : goal.expression-returns-in-Indexing
expression-returns-in-Indexing t c =
    let b = c.in-Indexing in
    let d = c.operand-in-Indexing in
    let e = c.item in
    seen (ap expression_view b.is ∙ view_indexing b.base b.index) (view_indexing (with_value b.base d.new.node) (with_value b.index e.new.node))
    (of_two (kind indexing) (as_operand (same_class primary)) as_item (λ b t u. refl) (from expression_tree c.deref_mut-in-Indexing.ensures.value (d.ensures (same_class primary) refl (search rules))) (from expression_tree c.deref_mut-in-Indexing-2.ensures.value e.ensures))

pub expression-returns-in-Unary : goal.expression-returns-in-Unary
expression-returns-in-Unary t c =
    let b = c.in-Unary in
    let d = c.operand-in-Unary in
    seen (ap expression_view b.is ∙ view_unary _ b.operand) (view_unary _ (with_value b.operand d.new.node))
    (of_operand (unary _) is_tight (λ b t. refl) (from expression_tree c.deref_mut-in-Unary.ensures.value (d.ensures is_tight refl (search rules))))

pub expression-returns-in-Binary : goal.expression-returns-in-Binary
expression-returns-in-Binary t c =
    let b = c.in-Binary in
    let d = c.operand-in-Binary in
    let e = c.operand-in-Binary-2 in
    let k = operator_class b.operator in
    seen (ap expression_view b.is ∙ view_binary _ b.left b.right) (view_binary _ (with_value b.left d.new.node) (with_value b.right e.new.node))
    (of_two (binary _) (as_operand (takes_left k)) (as_operand (takes_right k)) (λ b t u. refl)
    (from expression_tree c.deref_mut-in-Binary.ensures.value (d.ensures (takes_left k) (left_takes_primary k) (search rules)))
    (from expression_tree c.deref_mut-in-Binary-2.ensures.value (e.ensures (takes_right k) (right_takes_primary k) (search rules))))

pub expression-returns-in-FunctionCall : goal.expression-returns-in-FunctionCall
expression-returns-in-FunctionCall t c =
    seen (ap expression_view c.in-FunctionCall.is ∙ view_call_expression _) (view_call_expression c.call.new.call) (of_kind call_expression (λ b f. refl) (then c.call.ensures nothing))

pub expression-returns-in-TypeOrIdentifier : goal.expression-returns-in-TypeOrIdentifier
expression-returns-in-TypeOrIdentifier t c =
    seen (ap expression_view c.in-TypeOrIdentifier.is ∙ view_name _) (view_name c.type_expression.new.ty) (of_kind type_or_identifier (λ b f. refl) (then c.type_expression.ensures nothing))

pub type_expression-returns-in-None : goal.type_expression-returns-in-None
type_expression-returns-in-None t c =
    let old = out-TypeExpression c.args.ty.now in
    seen (view_type c.args.ty.now) (view_type_of old.path old.ident _)
    (of_kind type_expression (λ b f. refl) (then (untouched_path old.path) (then (untouched_ident reference old.ident) (then (rw c.in-None.is (of_kind absent (λ b f. refl) nothing)) nothing))))

pub type_expression-returns-in-Some : goal.type_expression-returns-in-Some
type_expression-returns-in-Some t c =
    let old = out-TypeExpression c.args.ty.now in
    seen (view_type c.args.ty.now) (view_type_of old.path old.ident _)
    (of_kind type_expression (λ b f. refl) (then (untouched_path old.path) (then (untouched_ident reference old.ident) (then (rw c.in-Some.is (of_kind present (λ b f. refl) (then c.arguments.ensures nothing))) nothing))))
