use Rattle.std.proofs.Common.{ap, arith, get_or, refl, ◌∙◌}
use Rattle.std.specs.Box.{with_value}
use Rattle.wesl_tree_syntax.specs.Tree.{absent, call, call_expression, expression_node, indexing, list, literal, named_component, parenthesized, present, reference, type_expression, type_or_identifier}
use Rattle.wesl_tree_syntax.specs.View.{argument_view, expression_tree, expression_view}
use Rattle.wesl_tree_syntax.specs.declared.expression.TypeExpression.{out-TypeExpression}
use Rattle.wesl_tree_renumber.proofs.Listed.{all_numbered, none_yet, passed_more}
use Rattle.wesl_tree_renumber.proofs.Parts.{argument_numbered, from, nothing, of_binary, of_kind, of_place, of_unary, seen, then, untouched_literal, untouched_path, untouched_text}
use Rattle.wesl_tree_renumber.proofs.Views.{view_binary, view_unary}
use Rattle.wesl_tree_renumber.proofs.renumbering.Renumbering.+expressions.Goals as goal
use Rattle.wesl_tree_syntax.proofs.Views.{view_call, view_call_expression, view_call_of, view_indexing, view_literal, view_name, view_named, view_parenthesized, view_type, view_type_of}

pub nodes-loop-node-init : goal.nodes-loop-node-init
nodes-loop-node-init t c = ((refl, λ k d h. refl), none_yet expression_tree _ _)

pub nodes-loop-node-preserved : goal.nodes-loop-node-preserved
nodes-loop-node-preserved t c =
    let l = c.loop-node in
    let x = get_or l.node-items l.node-index c.node-item.result in
    passed_more expression_tree c.node-item.result _ (omega arith) l.invariant (of_place expression_view expression_node x c.expression.new.expression c.expression.ensures)

pub nodes-returns : goal.nodes-returns
nodes-returns t c =
    let l = c.loop-node in
    let lent = c.deref_mut-node-items in
    all_numbered expression_tree list c.args.nodes.now l.invariant.1 lent.ensures.value (omega (arith, l.auto.node-items, lent.ensures.len)) (omega arith)

pub arguments-loop-argument-init : goal.arguments-loop-argument-init
arguments-loop-argument-init t c = ((refl, λ k d h. refl), none_yet argument_view _ _)

pub arguments-loop-argument-preserved : goal.arguments-loop-argument-preserved
arguments-loop-argument-preserved t c =
    let l = c.loop-argument in
    let x = get_or l.argument-items l.argument-index c.argument-item.result in
    passed_more argument_view c.argument-item.result _ (omega arith) l.invariant (argument_numbered x c.node.new.node c.node.ensures)

pub arguments-returns : goal.arguments-returns
arguments-returns t c =
    let l = c.loop-argument in
    let lent = c.deref_mut-argument-items in
    all_numbered argument_view list c.args.arguments.now l.invariant.1 lent.ensures.value (omega (arith, l.auto.argument-items, lent.ensures.len)) (omega arith)

pub node-returns : goal.node-returns
node-returns t c = of_place expression_view expression_node c.args.node.now c.expression.new.expression c.expression.ensures

pub call-returns : goal.call-returns
call-returns t c = seen (view_call c.args.call.now) (view_call_of _ _) (of_kind call (then c.type_expression.ensures (then c.nodes.ensures nothing)))

pub expression-returns-in-Literal : goal.expression-returns-in-Literal
expression-returns-in-Literal t c =
    let p = ap expression_view c.in-Literal.is ∙ view_literal _ in
    seen p p (of_kind literal (then (untouched_literal _) nothing))

pub expression-returns-in-Parenthesized : goal.expression-returns-in-Parenthesized
expression-returns-in-Parenthesized t c =
    let b = c.in-Parenthesized in
    let d = c.node in
    seen (ap expression_view b.is ∙ view_parenthesized b.expression) (view_parenthesized (with_value b.expression d.new.node)) (of_kind parenthesized (then (from expression_tree c.deref_mut.ensures.value d.ensures) nothing))

pub expression-returns-in-NamedComponent : goal.expression-returns-in-NamedComponent
expression-returns-in-NamedComponent t c =
    let b = c.in-NamedComponent in
    let d = c.node-in-NamedComponent in
    seen (ap expression_view b.is ∙ view_named b.base b.component) (view_named (with_value b.base d.new.node) b.component)
    (of_kind named_component (then (from expression_tree c.deref_mut-in-NamedComponent.ensures.value d.ensures) (then (untouched_text b.component) nothing)))

pub expression-returns-in-Indexing : goal.expression-returns-in-Indexing
expression-returns-in-Indexing t c =
    let b = c.in-Indexing in
    let d = c.node-in-Indexing in
    let e = c.node-in-Indexing-2 in
    seen (ap expression_view b.is ∙ view_indexing b.base b.index) (view_indexing (with_value b.base d.new.node) (with_value b.index e.new.node))
    (of_kind indexing (then (from expression_tree c.deref_mut-in-Indexing.ensures.value d.ensures) (then (from expression_tree c.deref_mut-in-Indexing-2.ensures.value e.ensures) nothing)))

pub expression-returns-in-Unary : goal.expression-returns-in-Unary
expression-returns-in-Unary t c =
    let b = c.in-Unary in
    let d = c.node-in-Unary in
    seen (ap expression_view b.is ∙ view_unary _ b.operand) (view_unary _ (with_value b.operand d.new.node)) (of_unary _ (then (from expression_tree c.deref_mut-in-Unary.ensures.value d.ensures) nothing))

pub expression-returns-in-Binary : goal.expression-returns-in-Binary
expression-returns-in-Binary t c =
    let b = c.in-Binary in
    let d = c.node-in-Binary in
    let e = c.node-in-Binary-2 in
    seen (ap expression_view b.is ∙ view_binary _ b.left b.right) (view_binary _ (with_value b.left d.new.node) (with_value b.right e.new.node))
    (of_binary _ (then (from expression_tree c.deref_mut-in-Binary.ensures.value d.ensures) (then (from expression_tree c.deref_mut-in-Binary-2.ensures.value e.ensures) nothing)))

pub expression-returns-in-FunctionCall : goal.expression-returns-in-FunctionCall
expression-returns-in-FunctionCall t c =
    seen (ap expression_view c.in-FunctionCall.is ∙ view_call_expression _) (view_call_expression c.call.new.call) (of_kind call_expression (then c.call.ensures nothing))

pub expression-returns-in-TypeOrIdentifier : goal.expression-returns-in-TypeOrIdentifier
expression-returns-in-TypeOrIdentifier t c =
    seen (ap expression_view c.in-TypeOrIdentifier.is ∙ view_name _) (view_name c.type_expression.new.ty) (of_kind type_or_identifier (then c.type_expression.ensures nothing))

pub type_expression-returns-in-None : goal.type_expression-returns-in-None
type_expression-returns-in-None t c =
    let old = out-TypeExpression c.args.ty.now in
    seen (view_type c.args.ty.now) (view_type_of old.path c.ident.new.ident _)
    (of_kind type_expression (then (untouched_path old.path) (then (c.ident.ensures reference) (then (rw c.in-None.is (of_kind absent nothing)) nothing))))

pub type_expression-returns-in-Some : goal.type_expression-returns-in-Some
type_expression-returns-in-Some t c =
    let old = out-TypeExpression c.args.ty.now in
    seen (view_type c.args.ty.now) (view_type_of old.path c.ident.new.ident _)
    (of_kind type_expression (then (untouched_path old.path) (then (c.ident.ensures reference) (then (rw c.in-Some.is (of_kind present (then c.arguments.ensures nothing))) nothing))))
