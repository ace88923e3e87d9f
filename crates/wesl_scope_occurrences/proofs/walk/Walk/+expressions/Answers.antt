use Rattle.std.proofs.Common.{refl, ap, ◌∙◌, map}
use Rattle.wesl_tree_syntax.specs.View.{argument_view, expression_view, expression_tree}
use Rattle.std.specs.Prelude.{Some, None}
use Rattle.wesl_tree_syntax.specs.declared.expression.TypeExpression.{out-TypeExpression}
use Rattle.wesl_scope_occurrences.specs.Views.{here_view}
use Rattle.wesl_scope_occurrences.proofs.Steps.{all_passed, at, begin, begun, gone_on, inside, lawful, next, none, over, tells}
use Rattle.wesl_scope_occurrences.proofs.Nodes.{literal_joined, plain_type_joined, type_joined}
use Rattle.wesl_scope_occurrences.proofs.walk.Walk.+expressions.Goals as goal
use Rattle.wesl_tree_syntax.proofs.Views.{type_of, view_argument, view_binary, view_call, view_call_expression, view_indexing, view_literal, view_name, view_named, view_parenthesized, view_unary}

pub expression-returns-in-Parenthesized : goal.expression-returns-in-Parenthesized
expression-returns-in-Parenthesized g t c =
    let l = lawful g.met.H.Handler.none g.met.H.Handler.more in
    let v = c.in-Parenthesized in
    over (here_view c.args.here.now) (next l (none l c.args.self.now) (at expression_tree c.deref.ensures c.node.ensures)) (ap expression_view v.is ∙ view_parenthesized v.expression) refl

pub expression-returns-in-NamedComponent : goal.expression-returns-in-NamedComponent
expression-returns-in-NamedComponent g t c =
    let l = lawful g.met.H.Handler.none g.met.H.Handler.more in
    let v = c.in-NamedComponent in
    over (here_view c.args.here.now) (next l (none l c.args.self.now) (at expression_tree c.deref-in-NamedComponent.ensures c.node-in-NamedComponent.ensures)) (ap expression_view v.is ∙ view_named v.base v.component) refl

pub expression-returns-in-Indexing : goal.expression-returns-in-Indexing
expression-returns-in-Indexing g t c =
    let l = lawful g.met.H.Handler.none g.met.H.Handler.more in
    let v = c.in-Indexing in
    over (here_view c.args.here.now) (next l (next l (none l c.args.self.now) (at expression_tree c.deref-in-Indexing.ensures c.node-in-Indexing.ensures)) (at expression_tree c.deref-in-Indexing-2.ensures c.node-in-Indexing-2.ensures)) (ap expression_view v.is ∙ view_indexing v.base v.index) refl

pub expression-returns-in-Unary : goal.expression-returns-in-Unary
expression-returns-in-Unary g t c =
    let l = lawful g.met.H.Handler.none g.met.H.Handler.more in
    let v = c.in-Unary in
    over (here_view c.args.here.now) (next l (none l c.args.self.now) (at expression_tree c.deref-in-Unary.ensures c.node-in-Unary.ensures)) (ap expression_view v.is ∙ view_unary v.operator v.operand) refl

pub expression-returns-in-Binary : goal.expression-returns-in-Binary
expression-returns-in-Binary g t c =
    let l = lawful g.met.H.Handler.none g.met.H.Handler.more in
    let v = c.in-Binary in
    over (here_view c.args.here.now) (next l (next l (none l c.args.self.now) (at expression_tree c.deref-in-Binary.ensures c.node-in-Binary.ensures)) (at expression_tree c.deref-in-Binary-2.ensures c.node-in-Binary-2.ensures)) (ap expression_view v.is ∙ view_binary v.operator v.left v.right) refl

pub expression-returns-in-FunctionCall : goal.expression-returns-in-FunctionCall
expression-returns-in-FunctionCall g t c =
    let l = lawful g.met.H.Handler.none g.met.H.Handler.more in
    let v = c.in-FunctionCall in
    over (here_view c.args.here.now) (next l (none l c.args.self.now) c.call.ensures) (ap expression_view v.is ∙ view_call_expression v.call) refl

pub expression-returns-in-TypeOrIdentifier : goal.expression-returns-in-TypeOrIdentifier
expression-returns-in-TypeOrIdentifier g t c =
    let l = lawful g.met.H.Handler.none g.met.H.Handler.more in
    let v = c.in-TypeOrIdentifier in
    over (here_view c.args.here.now) (next l (none l c.args.self.now) c.type_expression.ensures) (ap expression_view v.is ∙ view_name v.ty) refl

pub call-returns : goal.call-returns
call-returns g t c =
    let l = lawful g.met.H.Handler.none g.met.H.Handler.more in
    over (here_view c.args.here.now) (next l (next l (none l c.args.self.now) c.type_expression.ensures) c.nodes.ensures) (view_call c.args.call.now) refl

pub node-returns : goal.node-returns
node-returns g t c =
    let l = lawful g.met.H.Handler.none g.met.H.Handler.more in
    over (here_view c.args.here.now) (next l (none l c.args.self.now) c.expression.ensures) refl refl

pub arguments-loop-argument-init : goal.arguments-loop-argument-init
arguments-loop-argument-init g t c =
    let l = lawful g.met.H.Handler.none g.met.H.Handler.more in
    begun l argument_view (here_view c.args.here.now)

pub arguments-loop-argument-preserved : goal.arguments-loop-argument-preserved
arguments-loop-argument-preserved g t c =
    let l = lawful g.met.H.Handler.none g.met.H.Handler.more in
    gone_on l argument_view (here_view c.args.here.now) c.argument-item.result c.loop-argument-test.true c.argument-item.is c.loop-argument.invariant (inside (here_view c.args.here.now) c.node.ensures (view_argument c.argument-item.result) refl)

pub arguments-returns : goal.arguments-returns
arguments-returns g t c = all_passed argument_view (here_view c.args.here.now) c.loop-argument-test.false c.deref-argument-items.ensures.value refl c.loop-argument.invariant

pub nodes-loop-node-init : goal.nodes-loop-node-init
nodes-loop-node-init g t c =
    let l = lawful g.met.H.Handler.none g.met.H.Handler.more in
    begun l expression_tree (here_view c.args.here.now)

pub nodes-loop-node-preserved : goal.nodes-loop-node-preserved
nodes-loop-node-preserved g t c =
    let l = lawful g.met.H.Handler.none g.met.H.Handler.more in
    gone_on l expression_tree (here_view c.args.here.now) c.node-item.result c.loop-node-test.true c.node-item.is c.loop-node.invariant (inside (here_view c.args.here.now) c.expression.ensures refl refl)

pub nodes-returns : goal.nodes-returns
nodes-returns g t c = all_passed expression_tree (here_view c.args.here.now) c.loop-node-test.false c.deref-node-items.ensures.value refl c.loop-node.invariant

pub type_expression-returns-in-None : goal.type_expression-returns-in-None
type_expression-returns-in-None g t c =
    let l = lawful g.met.H.Handler.none g.met.H.Handler.more in
    let v = out-TypeExpression c.args.ty.now in
    let h = here_view c.args.here.now in
    over h (tells l (none l c.args.self.now) c.reference.ensures) (type_of c.args.ty.now None c.in-None.is) (plain_type_joined h (begin c.args.self.now) v.path v.ident)

pub type_expression-returns-in-Some : goal.type_expression-returns-in-Some
type_expression-returns-in-Some g t c =
    let l = lawful g.met.H.Handler.none g.met.H.Handler.more in
    let v = out-TypeExpression c.args.ty.now in
    let h = here_view c.args.here.now in
    over h (next l (tells l (none l c.args.self.now) c.reference.ensures) c.arguments.ensures) (type_of c.args.ty.now (Some c.in-Some.arguments) c.in-Some.is) (type_joined h (begin c.args.self.now) v.path v.ident (map argument_view c.in-Some.arguments.items))

pub expression-returns-in-Literal : goal.expression-returns-in-Literal
expression-returns-in-Literal g t c =
    let l = lawful g.met.H.Handler.none g.met.H.Handler.more in
    over (here_view c.args.here.now) (none l c.args.self.now) (ap expression_view c.in-Literal.is ∙ view_literal c.in-Literal.field-0) (literal_joined (here_view c.args.here.now) (begin c.args.self.now) c.in-Literal.field-0)
