use Rattle.std.proofs.Common.{refl, ap, ◌∙◌, map}
use Rattle.wesl_tree_syntax.specs.View.{argument_view, expression_view, expression_tree}
use Rattle.std.specs.Prelude.{Some, None}
use Rattle.wesl_tree_syntax.specs.declared.expression.TypeExpression.{out-TypeExpression}
use Rattle.wesl_cond_alive.specs.Walk.{leaf}
use Rattle.wesl_cond_alive.specs.Views.{spot_view, state_of}
use Rattle.wesl_cond_alive.proofs.Steps.{all_passed, at, begun, gone_on, inside_of, next_tree, none, over}
use Rattle.wesl_cond_alive.proofs.Nodes.{plain_type_joined, type_joined, stepped}
use Rattle.wesl_cond_alive.proofs.walk.Walk.+expressions.Goals as goal
use Rattle.wesl_tree_syntax.proofs.Views.{type_of, view_argument, view_binary, view_call, view_call_expression, view_indexing, view_name, view_named, view_parenthesized, view_unary}

pub expression-returns-in-Parenthesized : goal.expression-returns-in-Parenthesized
expression-returns-in-Parenthesized t c =
    let v = c.in-Parenthesized in
    over (spot_view c.args.here.now) (next_tree (none c.args.self.now) (at expression_tree c.deref.ensures c.node.ensures)) (ap expression_view v.is ∙ view_parenthesized v.expression) refl

pub expression-returns-in-NamedComponent : goal.expression-returns-in-NamedComponent
expression-returns-in-NamedComponent t c =
    let v = c.in-NamedComponent in
    over (spot_view c.args.here.now) (next_tree (none c.args.self.now) (at expression_tree c.deref-in-NamedComponent.ensures c.node-in-NamedComponent.ensures)) (ap expression_view v.is ∙ view_named v.base v.component) refl

pub expression-returns-in-Indexing : goal.expression-returns-in-Indexing
expression-returns-in-Indexing t c =
    let v = c.in-Indexing in
    over (spot_view c.args.here.now) (next_tree (next_tree (none c.args.self.now) (at expression_tree c.deref-in-Indexing.ensures c.node-in-Indexing.ensures)) (at expression_tree c.deref-in-Indexing-2.ensures c.node-in-Indexing-2.ensures)) (ap expression_view v.is ∙ view_indexing v.base v.index) refl

pub expression-returns-in-Unary : goal.expression-returns-in-Unary
expression-returns-in-Unary t c =
    let v = c.in-Unary in
    over (spot_view c.args.here.now) (next_tree (none c.args.self.now) (at expression_tree c.deref-in-Unary.ensures c.node-in-Unary.ensures)) (ap expression_view v.is ∙ view_unary v.operator v.operand) refl

pub expression-returns-in-Binary : goal.expression-returns-in-Binary
expression-returns-in-Binary t c =
    let v = c.in-Binary in
    over (spot_view c.args.here.now) (next_tree (next_tree (none c.args.self.now) (at expression_tree c.deref-in-Binary.ensures c.node-in-Binary.ensures)) (at expression_tree c.deref-in-Binary-2.ensures c.node-in-Binary-2.ensures)) (ap expression_view v.is ∙ view_binary v.operator v.left v.right) refl

pub expression-returns-in-FunctionCall : goal.expression-returns-in-FunctionCall
expression-returns-in-FunctionCall t c =
    let v = c.in-FunctionCall in
    over (spot_view c.args.here.now) (next_tree (none c.args.self.now) c.call.ensures) (ap expression_view v.is ∙ view_call_expression v.call) refl

pub expression-returns-in-TypeOrIdentifier : goal.expression-returns-in-TypeOrIdentifier
expression-returns-in-TypeOrIdentifier t c =
    let v = c.in-TypeOrIdentifier in
    over (spot_view c.args.here.now) (next_tree (none c.args.self.now) c.type_expression.ensures) (ap expression_view v.is ∙ view_name v.ty) refl

pub call-returns : goal.call-returns
call-returns t c = over (spot_view c.args.here.now) (next_tree (next_tree (none c.args.self.now) c.type_expression.ensures) c.nodes.ensures) (view_call c.args.call.now) refl

pub node-returns : goal.node-returns
node-returns t c = over (spot_view c.args.here.now) (next_tree (none c.args.self.now) c.expression.ensures) refl refl

pub arguments-loop-argument-init : goal.arguments-loop-argument-init
arguments-loop-argument-init t c = begun argument_view (spot_view c.args.here.now)

pub arguments-loop-argument-preserved : goal.arguments-loop-argument-preserved
arguments-loop-argument-preserved t c = gone_on argument_view (spot_view c.args.here.now) c.argument-item.result c.loop-argument-test.true c.argument-item.is c.loop-argument.invariant refl
    (stepped (inside_of {outer = leaf} (spot_view c.args.here.now) c.node.ensures (view_argument c.argument-item.result) refl) refl)

pub arguments-returns : goal.arguments-returns
arguments-returns t c = all_passed argument_view (spot_view c.args.here.now) c.loop-argument-test.false c.deref-argument-items.ensures.value refl c.loop-argument.invariant

pub nodes-loop-node-init : goal.nodes-loop-node-init
nodes-loop-node-init t c = begun expression_tree (spot_view c.args.here.now)

pub nodes-loop-node-preserved : goal.nodes-loop-node-preserved
nodes-loop-node-preserved t c = gone_on expression_tree (spot_view c.args.here.now) c.node-item.result c.loop-node-test.true c.node-item.is c.loop-node.invariant refl
    (stepped c.expression.ensures refl)

pub nodes-returns : goal.nodes-returns
nodes-returns t c = all_passed expression_tree (spot_view c.args.here.now) c.loop-node-test.false c.deref-node-items.ensures.value refl c.loop-node.invariant

pub type_expression-returns-in-None : goal.type_expression-returns-in-None
type_expression-returns-in-None t c =
    let v = out-TypeExpression c.args.ty.now in
    let h = spot_view c.args.here.now in
    over h c.add.ensures (type_of c.args.ty.now None c.in-None.is) (plain_type_joined h (state_of c.args.self.now) v.path v.ident)

pub type_expression-returns-in-Some : goal.type_expression-returns-in-Some
type_expression-returns-in-Some t c =
    let v = out-TypeExpression c.args.ty.now in
    let h = spot_view c.args.here.now in
    over h (next_tree c.add.ensures c.arguments.ensures) (type_of c.args.ty.now (Some c.in-Some.arguments) c.in-Some.is) (type_joined h (state_of c.args.self.now) v.path v.ident (map argument_view c.in-Some.arguments.items))
