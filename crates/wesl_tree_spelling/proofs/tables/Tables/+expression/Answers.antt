use Rattle.std.proofs.Common.{None, Some, ap, arith, refl, sym, ◌∙◌}
use Rattle.wesl_tree_syntax.specs.Tree.{call, call_expression, indexing, literal, named_component, parenthesized, template_argument, type_expression, type_or_identifier}
use Rattle.wesl_tree_syntax.specs.View.{argument_view, expression_tree, expression_view}
use Rattle.wesl_tree_spelling.proofs.Chains.{at_places, last, of_kind, of_labels, seen, stop, then}
use Rattle.wesl_tree_spelling.proofs.Pairs.{all_agree, other_lengths, pair_agrees, pair_differs}
use Rattle.wesl_tree_spelling.proofs.UnlikeExpressions.{unlike}
use Rattle.wesl_tree_spelling.proofs.tables.Tables.+expression.Goals as goal
use Rattle.wesl_tree_syntax.proofs.Views.{type_of, view_argument, view_binary, view_call, view_call_expression, view_indexing, view_literal, view_name, view_named, view_parenthesized, view_type}
use mathlib.Core.Bool.{and-true}

pub same_nodes-returns-then-len : goal.same_nodes-returns-then-len
same_nodes-returns-then-len t c = other_lengths expression_tree c.args.self.now c.args.left.now c.args.right.now c.len.ensures c.len-2.ensures c.if-len.true

pub same_nodes-loop-i-init : goal.same_nodes-loop-i-init
same_nodes-loop-i-init t c = record { rest = refl }

pub same_nodes-index-requires : goal.same_nodes-index-requires
same_nodes-index-requires t c = omega (arith, c.loop-i-test.true, c.len-i-end.ensures)

pub same_nodes-index-requires-in-loop-i : goal.same_nodes-index-requires-in-loop-i
same_nodes-index-requires-in-loop-i t c = omega (arith, c.loop-i-test.true, c.len-i-end.ensures, c.len.ensures, c.len-2.ensures, c.if-len.false)

pub same_nodes-loop-i-preserved : goal.same_nodes-loop-i-preserved
same_nodes-loop-i-preserved t c =
    pair_agrees expression_tree c.args.self.now c.index.result.now c.index-in-loop-i.result.now c.len.ensures c.len-2.ensures c.if-len.false c.len-i-end.ensures c.loop-i-test.true c.index.ensures c.index-in-loop-i.ensures
    c.same_node.ensures c.if-not-same_node.false c.loop-i.invariant

pub same_nodes-returns-then-not-same_node : goal.same_nodes-returns-then-not-same_node
same_nodes-returns-then-not-same_node t c =
    pair_differs expression_tree c.args.self.now c.index.result.now c.index-in-loop-i.result.now c.len.ensures c.len-2.ensures c.if-len.false c.len-i-end.ensures c.loop-i-test.true c.index.ensures c.index-in-loop-i.ensures
    c.same_node.ensures c.if-not-same_node.true c.loop-i.invariant

pub same_nodes-returns : goal.same_nodes-returns
same_nodes-returns t c = all_agree expression_tree c.args.self.now c.len.ensures c.len-2.ensures c.if-len.false c.len-i-end.ensures c.loop-i-test.false c.loop-i.invariant

pub same_arguments-returns-then-len : goal.same_arguments-returns-then-len
same_arguments-returns-then-len t c = other_lengths argument_view c.args.self.now c.args.left.now c.args.right.now c.len.ensures c.len-2.ensures c.if-len.true

pub same_arguments-loop-i-init : goal.same_arguments-loop-i-init
same_arguments-loop-i-init t c = record { rest = refl }

pub same_arguments-index-requires : goal.same_arguments-index-requires
same_arguments-index-requires t c = omega (arith, c.loop-i-test.true, c.len-i-end.ensures)

pub same_arguments-index-requires-in-loop-i : goal.same_arguments-index-requires-in-loop-i
same_arguments-index-requires-in-loop-i t c = omega (arith, c.loop-i-test.true, c.len-i-end.ensures, c.len.ensures, c.len-2.ensures, c.if-len.false)

pub same_arguments-loop-i-preserved : goal.same_arguments-loop-i-preserved
same_arguments-loop-i-preserved t c =
    pair_agrees argument_view c.args.self.now c.index.result.now c.index-in-loop-i.result.now c.len.ensures c.len-2.ensures c.if-len.false c.len-i-end.ensures c.loop-i-test.true c.index.ensures c.index-in-loop-i.ensures
    (seen c.args.self.now (view_argument c.index.result.now) (view_argument c.index-in-loop-i.result.now) (of_kind template_argument refl (last c.same_node.ensures))) c.if-not-same_node.false c.loop-i.invariant

pub same_arguments-returns-then-not-same_node : goal.same_arguments-returns-then-not-same_node
same_arguments-returns-then-not-same_node t c =
    pair_differs argument_view c.args.self.now c.index.result.now c.index-in-loop-i.result.now c.len.ensures c.len-2.ensures c.if-len.false c.len-i-end.ensures c.loop-i-test.true c.index.ensures c.index-in-loop-i.ensures
    (seen c.args.self.now (view_argument c.index.result.now) (view_argument c.index-in-loop-i.result.now) (of_kind template_argument refl (last c.same_node.ensures))) c.if-not-same_node.true c.loop-i.invariant

pub same_arguments-returns : goal.same_arguments-returns
same_arguments-returns t c = all_agree argument_view c.args.self.now c.len.ensures c.len-2.ensures c.if-len.false c.len-i-end.ensures c.loop-i-test.false c.loop-i.invariant

pub same_call-returns-then-same_type : goal.same_call-returns-then-same_type
same_call-returns-then-same_type t c = seen c.args.self.now (view_call c.args.left.now) (view_call c.args.right.now) (of_kind call refl (then c.same_type.ensures c.if-same_type.true (last c.same_nodes.ensures)))

pub same_call-returns-else-same_type : goal.same_call-returns-else-same_type
same_call-returns-else-same_type t c = seen c.args.self.now (view_call c.args.left.now) (view_call c.args.right.now) (of_kind call refl (stop c.same_type.ensures c.if-same_type.false))

pub same_type-returns-in-None-None : goal.same_type-returns-in-None-None
same_type-returns-in-None-None t c =
    seen c.args.self.now (type_of c.args.left.now None c.in-None-None.is-0) (type_of c.args.right.now None c.in-None-None.is-1)
    (of_kind type_expression refl (then c.same_boxed_path.ensures c.if-same_boxed_path.true (then (c.same_ident.ensures ∙ sym (and-true _)) c.if-same_ident.true (last refl))))

pub same_type-returns-in-Some-Some : goal.same_type-returns-in-Some-Some
same_type-returns-in-Some-Some t c =
    seen c.args.self.now (type_of c.args.left.now (Some c.in-Some-Some.left) c.in-Some-Some.is-0) (type_of c.args.right.now (Some c.in-Some-Some.right) c.in-Some-Some.is-1)
    (of_kind type_expression refl (then c.same_boxed_path.ensures c.if-same_boxed_path.true (then (c.same_ident.ensures ∙ sym (and-true _)) c.if-same_ident.true (last (c.same_arguments.ensures ∙ sym (and-true _))))))

pub same_type-returns-else-same_ident : goal.same_type-returns-else-same_ident
same_type-returns-else-same_ident t c =
    seen c.args.self.now (view_type c.args.left.now) (view_type c.args.right.now) (of_kind type_expression refl (then c.same_boxed_path.ensures c.if-same_boxed_path.true (stop (c.same_ident.ensures ∙ sym (and-true _)) c.if-same_ident.false)))

pub same_type-returns-else-same_boxed_path : goal.same_type-returns-else-same_boxed_path
same_type-returns-else-same_boxed_path t c = seen c.args.self.now (view_type c.args.left.now) (view_type c.args.right.now) (of_kind type_expression refl (stop c.same_boxed_path.ensures c.if-same_boxed_path.false))

pub same_expression-returns-in-Literal-Literal : goal.same_expression-returns-in-Literal-Literal
same_expression-returns-in-Literal-Literal t c =
    seen c.args.self.now (ap expression_view c.in-Literal-Literal.is-0 ∙ view_literal _) (ap expression_view c.in-Literal-Literal.is-1 ∙ view_literal _) (of_kind literal refl (last c.same_literal.ensures))

pub same_expression-returns-in-Parenthesized-Parenthesized : goal.same_expression-returns-in-Parenthesized-Parenthesized
same_expression-returns-in-Parenthesized-Parenthesized t c =
    seen c.args.self.now (ap expression_view c.in-Parenthesized-Parenthesized.is-0 ∙ view_parenthesized _) (ap expression_view c.in-Parenthesized-Parenthesized.is-1 ∙ view_parenthesized _) (of_kind parenthesized refl (last (at_places expression_tree c.args.self.now c.deref.ensures c.deref-in-Parenthesized-Parenthesized.ensures c.same_node.ensures)))

pub same_expression-returns-then-same_node : goal.same_expression-returns-then-same_node
same_expression-returns-then-same_node t c =
    seen c.args.self.now (ap expression_view c.in-NamedComponent-NamedComponent.is-0 ∙ view_named _ _) (ap expression_view c.in-NamedComponent-NamedComponent.is-1 ∙ view_named _ _) (of_kind named_component refl (then (at_places expression_tree c.args.self.now c.deref-in-NamedComponent-NamedComponent.ensures c.deref-in-NamedComponent-NamedComponent-2.ensures c.same_node-in-NamedComponent-NamedComponent.ensures) c.if-same_node.true (last (c.eq.ensures ∙ sym (and-true _)))))

pub same_expression-returns-else-same_node : goal.same_expression-returns-else-same_node
same_expression-returns-else-same_node t c =
    seen c.args.self.now (ap expression_view c.in-NamedComponent-NamedComponent.is-0 ∙ view_named _ _) (ap expression_view c.in-NamedComponent-NamedComponent.is-1 ∙ view_named _ _) (of_kind named_component refl (stop (at_places expression_tree c.args.self.now c.deref-in-NamedComponent-NamedComponent.ensures c.deref-in-NamedComponent-NamedComponent-2.ensures c.same_node-in-NamedComponent-NamedComponent.ensures) c.if-same_node.false))

pub same_expression-returns-then-same_node-2 : goal.same_expression-returns-then-same_node-2
same_expression-returns-then-same_node-2 t c =
    seen c.args.self.now (ap expression_view c.in-Indexing-Indexing.is-0 ∙ view_indexing _ _) (ap expression_view c.in-Indexing-Indexing.is-1 ∙ view_indexing _ _) (of_kind indexing refl (then (at_places expression_tree c.args.self.now c.deref-in-Indexing-Indexing.ensures c.deref-in-Indexing-Indexing-2.ensures c.same_node-in-Indexing-Indexing.ensures) c.if-same_node-2.true (last (at_places expression_tree c.args.self.now c.deref-then-same_node-2.ensures c.deref-then-same_node-2-2.ensures c.same_node-then-same_node-2.ensures))))

pub same_expression-returns-else-same_node-2 : goal.same_expression-returns-else-same_node-2
same_expression-returns-else-same_node-2 t c =
    seen c.args.self.now (ap expression_view c.in-Indexing-Indexing.is-0 ∙ view_indexing _ _) (ap expression_view c.in-Indexing-Indexing.is-1 ∙ view_indexing _ _) (of_kind indexing refl (stop (at_places expression_tree c.args.self.now c.deref-in-Indexing-Indexing.ensures c.deref-in-Indexing-Indexing-2.ensures c.same_node-in-Indexing-Indexing.ensures) c.if-same_node-2.false))

pub same_expression-returns-then-same_node-3 : goal.same_expression-returns-then-same_node-3
same_expression-returns-then-same_node-3 t c =
    seen c.args.self.now (ap expression_view c.in-Binary-Binary.is-0 ∙ view_binary _ _ _) (ap expression_view c.in-Binary-Binary.is-1 ∙ view_binary _ _ _) (of_labels _ _ c.eq-in-Binary-Binary.ensures c.if-eq-2.true (then (at_places expression_tree c.args.self.now c.deref-then-eq-2-2.ensures c.deref-then-eq-2-3.ensures c.same_node-then-eq-2.ensures) c.if-same_node-3.true (last (at_places expression_tree c.args.self.now c.deref-then-same_node-3.ensures c.deref-then-same_node-3-2.ensures c.same_node-then-same_node-3.ensures))))

pub same_expression-returns-else-same_node-3 : goal.same_expression-returns-else-same_node-3
same_expression-returns-else-same_node-3 t c =
    seen c.args.self.now (ap expression_view c.in-Binary-Binary.is-0 ∙ view_binary _ _ _) (ap expression_view c.in-Binary-Binary.is-1 ∙ view_binary _ _ _) (of_labels _ _ c.eq-in-Binary-Binary.ensures c.if-eq-2.true (stop (at_places expression_tree c.args.self.now c.deref-then-eq-2-2.ensures c.deref-then-eq-2-3.ensures c.same_node-then-eq-2.ensures) c.if-same_node-3.false))

pub same_expression-returns-in-FunctionCall-FunctionCall : goal.same_expression-returns-in-FunctionCall-FunctionCall
same_expression-returns-in-FunctionCall-FunctionCall t c =
    seen c.args.self.now (ap expression_view c.in-FunctionCall-FunctionCall.is-0 ∙ view_call_expression _) (ap expression_view c.in-FunctionCall-FunctionCall.is-1 ∙ view_call_expression _) (of_kind call_expression refl (last c.same_call.ensures))

pub same_expression-returns-in-TypeOrIdentifier-TypeOrIdentifier : goal.same_expression-returns-in-TypeOrIdentifier-TypeOrIdentifier
same_expression-returns-in-TypeOrIdentifier-TypeOrIdentifier t c =
    seen c.args.self.now (ap expression_view c.in-TypeOrIdentifier-TypeOrIdentifier.is-0 ∙ view_name _) (ap expression_view c.in-TypeOrIdentifier-TypeOrIdentifier.is-1 ∙ view_name _) (of_kind type_or_identifier refl (last c.same_type.ensures))

pub same_expression-returns-in_default : goal.same_expression-returns-in_default
same_expression-returns-in_default t c = grind (arith, unlike)

pub same_expression-returns-in_default-2 : goal.same_expression-returns-in_default-2
same_expression-returns-in_default-2 t c = grind (arith, unlike)

pub same_expression-returns-in_default-3 : goal.same_expression-returns-in_default-3
same_expression-returns-in_default-3 t c = grind (arith, unlike)

pub same_expression-returns-in_default-4 : goal.same_expression-returns-in_default-4
same_expression-returns-in_default-4 t c = grind (arith, unlike)

pub same_expression-returns-in_default-5 : goal.same_expression-returns-in_default-5
same_expression-returns-in_default-5 t c = grind (arith, unlike)

pub same_expression-returns-in_default-6 : goal.same_expression-returns-in_default-6
same_expression-returns-in_default-6 t c = grind (arith, unlike)

pub same_expression-returns-in_default-7 : goal.same_expression-returns-in_default-7
same_expression-returns-in_default-7 t c = grind (arith, unlike)

pub same_expression-returns-in_default-8 : goal.same_expression-returns-in_default-8
same_expression-returns-in_default-8 t c = grind (arith, unlike)
