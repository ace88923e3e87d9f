use Rattle.wesl_tree_syntax.specs.Tree.{absent, call, expression_node, list, present, reference, type_expression}
use Rattle.wesl_tree_syntax.specs.View.{argument_view, expression_tree, expression_view, listed, optional}
use Rattle.wesl_tree_syntax.specs.declared.expression.TypeExpression.{out-TypeExpression}
use Rattle.wesl_tree_copies.specs.Copied.{Copied}
use Rattle.wesl_tree_copies.proofs.Listed.{all_copied, none_yet, one_more}
use Rattle.wesl_tree_copies.proofs.Parts.{copied_box, nothing, of_kind, of_place, seen, then}
use Rattle.wesl_tree_copies.proofs.copying.Copying.+expressions.Goals as goal
use Rattle.wesl_tree_copies.proofs.copying.Copying.+expressions.Goals.{type_expression-in-None, type_expression-in-Some}
use Rattle.wesl_tree_syntax.proofs.Views.{view_call, view_call_of, view_type, view_type_of}

pub arguments-loop-argument-init : goal.arguments-loop-argument-init
arguments-loop-argument-init t c = none_yet argument_view argument_view _ _ _ _ c.list-copies.ensures.empty c.list-copies.ensures.noted

pub arguments-loop-argument-preserved : goal.arguments-loop-argument-preserved
arguments-loop-argument-preserved t c = one_more argument_view argument_view c.loop-argument-test.true c.argument-item.is c.loop-argument.invariant c.argument-copy.ensures c.push.ensures.noted c.push.ensures.pushed

pub arguments-returns : goal.arguments-returns
arguments-returns t c = all_copied argument_view argument_view list c.args.arguments.now c.loop-argument.copies c.loop-argument.invariant c.deref-argument-items.ensures.value c.loop-argument-test.false

pub nodes-loop-node-init : goal.nodes-loop-node-init
nodes-loop-node-init t c = none_yet expression_tree expression_tree _ _ _ _ c.list-copies.ensures.empty c.list-copies.ensures.noted

pub nodes-loop-node-preserved : goal.nodes-loop-node-preserved
nodes-loop-node-preserved t c =
    one_more expression_tree expression_tree c.loop-node-test.true c.node-item.is c.loop-node.invariant (of_place expression_view expression_node c.node-item.result c.expression.result c.expression.ensures)
    c.push.ensures.noted c.push.ensures.pushed

pub nodes-returns : goal.nodes-returns
nodes-returns t c = all_copied expression_tree expression_tree list c.args.nodes.now c.loop-node.copies c.loop-node.invariant c.deref-node-items.ensures.value c.loop-node-test.false

pub call-returns : goal.call-returns
call-returns t c = seen (view_call c.args.call.now) (view_call_of _ _) (of_kind call (then c.type_expression.ensures (then c.nodes.ensures nothing)))

pub boxed-returns-clause-copied : goal.boxed-returns-clause-copied
boxed-returns-clause-copied t c = copied_box expression_tree _ _ _ _ _ _ _ c.new.ensures.ok c.made.ensures.given c.made.ensures.same c.node-copy.ensures

pub type_expression-returns : goal.type_expression-returns
type_expression-returns t c =
    let inside : Copied c.number.new.self c.match-ty.self (optional (listed argument_view list) (out-TypeExpression c.args.ty.now).template_args) (optional (listed argument_view list) c.match-ty.result) =
    elim c.match-ty.branch [
      | type_expression-in-None w ↦ rw (w.result-is, w.self-is, w.in-None.is) (of_kind absent nothing)
      | type_expression-in-Some w ↦ rw (w.result-is, w.self-is, w.in-Some.is) (of_kind present (then w.arguments.ensures nothing))
    ] in
    seen (view_type c.args.ty.now) (view_type_of _ _ _) (of_kind type_expression (then c.boxed_path.ensures (then (c.number.ensures reference) (then inside nothing))))

pub node-returns : goal.node-returns
node-returns t c = of_place expression_view expression_node c.args.node.now c.expression.result c.expression.ensures
