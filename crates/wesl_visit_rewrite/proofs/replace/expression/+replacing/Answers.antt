use Rattle.std.proofs.Common.{get_or, refl, ap, ◌∙◌, arith}
use Rattle.std.specs.Box.{with_value}
use Rattle.std.specs.Vec.{with_items}
use Rattle.wesl_tree_syntax.specs.Tree.{binary, call, call_expression, indexing, kind, list, named_component, parenthesized, template_argument, type_or_identifier, unary}
use Rattle.wesl_tree_syntax.specs.View.{argument_view, expression_tree, expression_view, type_view}
use Rattle.wesl_tree_syntax.specs.declared.expression.FunctionCall.{out-FunctionCall}
use Rattle.wesl_tree_syntax.specs.declared.expression.TemplateArg.{roll-TemplateArg}
use Rattle.wesl_visit_rewrite.proofs.Expressions.{type_after, type_none, type_some}
use Rattle.wesl_visit_rewrite.proofs.Steps.{beside, boxed, first_all, first_none, inside, passed_step, taken_else, taken_if, unmoved, viewed, went_list}
use Rattle.wesl_visit_rewrite.proofs.replace.expression.+replacing.Goals as goal
use Rattle.wesl_tree_syntax.proofs.Views.{view_argument, view_argument_of, view_binary, view_call, view_call_expression, view_call_of, view_indexing, view_literal, view_name, view_named, view_parenthesized, view_unary}
use Rattle.wesl_visit_collect.proofs.Parts.{literal_hollow}
use Rattle.wesl_visit_collect.proofs.Variants.{type_label}

pub in_expression-returns-in-Literal : goal.in_expression-returns-in-Literal
in_expression-returns-in-Literal g t c =
    let p = ap expression_view c.in-Literal.is ∙ view_literal _ in
    viewed _ _ p p (unmoved _ (literal_hollow _))

pub in_expression-returns-in-Parenthesized : goal.in_expression-returns-in-Parenthesized
in_expression-returns-in-Parenthesized g t c =
    let b = c.in-Parenthesized in
    let d = c.at_expression in
    viewed _ _ (ap expression_view b.is ∙ view_parenthesized b.expression) (view_parenthesized (with_value b.expression d.new.node)) (inside (kind parenthesized) refl refl (boxed d.new.node c.deref_mut.ensures.value d.ensures))

pub in_expression-returns-in-NamedComponent : goal.in_expression-returns-in-NamedComponent
in_expression-returns-in-NamedComponent g t c =
    let b = c.in-NamedComponent in
    let d = c.at_expression-in-NamedComponent in
    viewed _ _ (ap expression_view b.is ∙ view_named b.base _) (view_named (with_value b.base d.new.node) _)
    (inside (kind named_component) refl refl (beside (boxed d.new.node c.deref_mut-in-NamedComponent.ensures.value d.ensures) (unmoved _ refl)))

pub in_expression-returns-in-Indexing : goal.in_expression-returns-in-Indexing
in_expression-returns-in-Indexing g t c =
    let b = c.in-Indexing in
    let d = c.at_expression-goes in
    let e = c.at_expression-in-Indexing in
    viewed _ _ (ap expression_view b.is ∙ view_indexing b.base b.index) (view_indexing (with_value b.base d.new.node) (with_value b.index e.new.node))
    (inside (kind indexing) refl refl (beside (boxed d.new.node c.deref_mut-in-Indexing.ensures.value d.ensures) (boxed e.new.node c.deref_mut-in-Indexing-2.ensures.value e.ensures)))

pub in_expression-returns-in-Unary : goal.in_expression-returns-in-Unary
in_expression-returns-in-Unary g t c =
    let b = c.in-Unary in
    let d = c.at_expression-in-Unary in
    viewed _ _ (ap expression_view b.is ∙ view_unary _ b.operand) (view_unary _ (with_value b.operand d.new.node)) (inside (unary _) refl refl (boxed d.new.node c.deref_mut-in-Unary.ensures.value d.ensures))

pub in_expression-returns-in-Binary : goal.in_expression-returns-in-Binary
in_expression-returns-in-Binary g t c =
    let b = c.in-Binary in
    let d = c.at_expression-goes-in-Binary in
    let e = c.at_expression-in-Binary in
    viewed _ _ (ap expression_view b.is ∙ view_binary _ b.left b.right) (view_binary _ (with_value b.left d.new.node) (with_value b.right e.new.node))
    (inside (binary _) refl refl (beside (boxed d.new.node c.deref_mut-in-Binary.ensures.value d.ensures) (boxed e.new.node c.deref_mut-in-Binary-2.ensures.value e.ensures)))

pub in_expression-returns-in-FunctionCall : goal.in_expression-returns-in-FunctionCall
in_expression-returns-in-FunctionCall g t c =
    let d = c.in_call in
    viewed _ _ (ap expression_view c.in-FunctionCall.is ∙ view_call_expression _) (view_call_expression d.new.call) (inside (kind call_expression) refl refl d.ensures)

pub in_expression-returns-in-TypeOrIdentifier : goal.in_expression-returns-in-TypeOrIdentifier
in_expression-returns-in-TypeOrIdentifier g t c =
    let d = c.at_type in
    viewed _ _ (ap expression_view c.in-TypeOrIdentifier.is ∙ view_name _) (view_name d.new.ty) (inside (kind type_or_identifier) refl refl d.ensures)

pub at_expression-returns-then-takes_whole_expressions : goal.at_expression-returns-then-takes_whole_expressions
at_expression-returns-then-takes_whole_expressions g t c =
    taken_if _ c.takes_whole_expressions.result _ _ (expression_tree c.args.node.now) (expression_tree c.finish_expression.new.node) refl c.takes_whole_expressions.ensures c.if-takes_whole_expressions.true c.finish_expression.ensures

pub at_expression-returns-else-takes_whole_expressions : goal.at_expression-returns-else-takes_whole_expressions
at_expression-returns-else-takes_whole_expressions g t c =
    let d = c.finish_expression-else-takes_whole_expressions in
    taken_else _ c.takes_whole_expressions.result (expression_tree c.args.node.now).label (expression_tree d.new.node) refl refl c.takes_whole_expressions.ensures c.if-takes_whole_expressions.false c.in_expression-goes.ensures d.ensures

pub at_type-returns-then-takes_whole_types : goal.at_type-returns-then-takes_whole_types
at_type-returns-then-takes_whole_types g t c =
    let l = type_label c.args.ty.now in
    taken_if _ c.takes_whole_types.result _ _ (type_view c.args.ty.now) (type_view c.finish_type.new.node) (rw l refl) c.takes_whole_types.ensures c.if-takes_whole_types.true c.finish_type.ensures

pub at_type-returns-else-takes_whole_types : goal.at_type-returns-else-takes_whole_types
at_type-returns-else-takes_whole_types g t c =
    let d = c.finish_type-else-takes_whole_types in
    type_after _ _ _ _ c.takes_whole_types.result c.args.ty.now c.in_type-goes.new.ty (type_view d.new.node) c.takes_whole_types.ensures c.if-takes_whole_types.false c.in_type-goes.ensures d.ensures

pub in_call-returns : goal.in_call-returns
in_call-returns g t c =
    let old = out-FunctionCall c.args.call.now in
    let d = c.at_expressions in
    viewed _ _ (view_call c.args.call.now) (view_call_of c.at_type-goes.new.ty (with_items old.arguments d.new.nodes))
    (inside (kind call) refl refl (beside c.at_type-goes.ensures (went_list expression_tree list old.arguments _ d.new.nodes refl refl c.deref_mut.ensures.value (omega (arith, d.auto.nodes, c.deref_mut.ensures.len)) d.ensures)))

pub in_type-returns-in-None : goal.in_type-returns-in-None
in_type-returns-in-None g t c =
    type_none _ _ c.args.ty.now c.in-None.is

pub in_type-returns-in-Some : goal.in_type-returns-in-Some
in_type-returns-in-Some g t c =
    let d = c.in_arguments in
    type_some _ _ _ c.args.ty.now c.in-Some.arguments _ d.new.arguments c.in-Some.is c.deref_mut.ensures.value (omega (arith, d.auto.arguments, c.deref_mut.ensures.len)) d.ensures

pub at_expressions-loop-i-init : goal.at_expressions-loop-i-init
at_expressions-loop-i-init g t c =
    (first_none _ expression_tree _ _, (refl, λ k d h. refl))

pub at_expressions-loop-i-preserved-then-takes_whole_expressions : goal.at_expressions-loop-i-preserved-then-takes_whole_expressions
at_expressions-loop-i-preserved-then-takes_whole_expressions g t c =
    let xs = c.loop-i.nodes in
    let x = c.index-nodes-i.result in
    let d = c.finish_expression-goes in
    passed_step _ expression_tree c.loop-i.i _ _ _ c.args.nodes.now xs x d.new.node (omega arith) c.index-nodes-i.is c.loop-i.invariant
    (taken_if _ c.takes_whole_expressions.result _ _ (expression_tree (get_or xs c.loop-i.i x)) (expression_tree d.new.node) refl c.takes_whole_expressions.ensures c.if-takes_whole_expressions.true d.ensures)

pub at_expressions-loop-i-preserved : goal.at_expressions-loop-i-preserved
at_expressions-loop-i-preserved g t c =
    let xs = c.loop-i.nodes in
    let x = c.index-nodes-i.result in
    let d = c.finish_expression-goes-in-loop-i in
    passed_step _ expression_tree c.loop-i.i _ _ _ c.args.nodes.now xs x d.new.node (omega arith) c.index-nodes-i.is c.loop-i.invariant
    (taken_else _ c.takes_whole_expressions.result (expression_tree (get_or xs c.loop-i.i x)).label (expression_tree d.new.node) refl refl c.takes_whole_expressions.ensures c.if-takes_whole_expressions.false c.in_expression-goes.ensures d.ensures)

pub at_expressions-returns : goal.at_expressions-returns
at_expressions-returns g t c =
    first_all _ expression_tree c.loop-i.i _ _ c.args.nodes.now c.loop-i.nodes (omega arith) (omega arith) c.loop-i.invariant.0

pub in_arguments-loop-i-init : goal.in_arguments-loop-i-init
in_arguments-loop-i-init g t c =
    (first_none _ argument_view _ _, (refl, λ k d h. refl))

pub in_arguments-loop-i-preserved : goal.in_arguments-loop-i-preserved
in_arguments-loop-i-preserved g t c =
    let xs = c.loop-i.arguments in
    let x = c.index-arguments-i.result in
    let d = c.at_expression-goes in
    passed_step _ argument_view c.loop-i.i _ _ _ c.args.arguments.now xs x (roll-TemplateArg (record { expression = d.new.node })) (omega arith) c.index-arguments-i.is c.loop-i.invariant
    (viewed _ _ (view_argument (get_or xs c.loop-i.i x)) (view_argument_of d.new.node) (inside (kind template_argument) refl refl d.ensures))

pub in_arguments-returns : goal.in_arguments-returns
in_arguments-returns g t c =
    first_all _ argument_view c.loop-i.i _ _ c.args.arguments.now c.loop-i.arguments (omega arith) (omega arith) c.loop-i.invariant.0
