use Rattle.std.proofs.Common.{◌∙◌, ap, arith, refl}
use Rattle.std.specs.Box.{box_value}
use Rattle.wesl_tree_syntax.specs.Tree.{absent, assignment, at, before, call_statement, clauses, compound, compound_statement, continuing, else_clause, else_if_clause, end, for_loop, if_clause, if_statement, kind, leaf, list, loop, present, return, statement_node, statements, switch, switch_clause, void, while_loop}
use Rattle.wesl_tree_syntax.specs.View.{continuing_view, else_view, optional, statement_tree, statement_view}
use Rattle.wesl_scope_spans.proofs.Either.{left, stepped}
use Rattle.wesl_scope_spans.proofs.Stepped.{walked_all, walked_next, walked_none}
use Rattle.wesl_scope_spans.proofs.Steps.{beside, boxed, held, inside, none, viewed}
use Rattle.wesl_scope_spans.proofs.statements.+statements.Goals as goal
use Rattle.wesl_tree_syntax.proofs.Views.{view_assignment, view_block, view_call_statement, view_clause, view_compound, view_const_assert, view_continuing, view_else, view_else_if, view_for, view_if, view_if_clause, view_local, view_loop, view_return, view_switch, view_void, view_while}

pub in_statement-returns-in-Void : goal.in_statement-returns-in-Void
in_statement-returns-in-Void t c = viewed (ap statement_view c.in-Void.is ∙ view_void) (none (before (leaf (kind void)) end) refl)

pub in_statement-returns-in-Compound : goal.in_statement-returns-in-Compound
in_statement-returns-in-Compound t c =
    viewed (ap statement_view c.in-Compound.is ∙ view_block c.in-Compound.body) (inside (kind compound_statement) refl (c.in_compound.ensures c.args.round))

pub in_statement-returns-in-Assignment : goal.in_statement-returns-in-Assignment
in_statement-returns-in-Assignment t c =
    let n = c.in-Assignment in
    let s = c.args.round in
    viewed (ap statement_view n.is ∙ view_assignment n.attributes n.operator n.lhs n.rhs) (inside (assignment n.operator) refl
    (beside (c.in_attributes.ensures s) (beside (c.in_node.ensures s) (c.in_node-in-Assignment.ensures s))))

pub in_statement-returns-in-If : goal.in_statement-returns-in-If
in_statement-returns-in-If t c =
    let n = c.in-If in
    let s = c.args.round in
    viewed (ap statement_view n.is ∙ view_if n.attributes n.if_clause n.else_if_clauses n.else_clause) (inside (kind if_statement) refl
    (beside (c.in_attributes-in-If.ensures s) (beside (c.in_if.ensures s) (beside (c.in_else_ifs.ensures s) (c.in_optional_else.ensures s)))))

pub in_statement-returns-in-Switch : goal.in_statement-returns-in-Switch
in_statement-returns-in-Switch t c =
    let n = c.in-Switch in
    let s = c.args.round in
    viewed (ap statement_view n.is ∙ view_switch n.attributes n.expression n.body_attributes n.clauses) (inside (kind switch) refl
    (beside (c.in_attributes-in-Switch.ensures s) (beside (c.in_node-in-Switch.ensures s) (beside (c.in_attributes-in-Switch-2.ensures s) (c.in_clauses.ensures s)))))

pub in_statement-returns-in-Loop : goal.in_statement-returns-in-Loop
in_statement-returns-in-Loop t c =
    let n = c.in-Loop in
    let s = c.args.round in
    viewed (ap statement_view n.is ∙ view_loop n.attributes n.body n.continuing) (inside (kind loop) refl
    (beside (c.in_attributes-in-Loop.ensures s) (beside (c.in_compound-in-Loop.ensures s) (c.in_optional_continuing.ensures s))))

pub in_statement-returns-in-For : goal.in_statement-returns-in-For
in_statement-returns-in-For t c =
    let n = c.in-For in
    let s = c.args.round in
    viewed (ap statement_view n.is ∙ view_for n.attributes n.initializer n.condition n.update n.body) (inside (kind for_loop) refl
    (beside (c.in_attributes-in-For.ensures s) (beside (c.in_optional_statement.ensures s) (beside (c.in_optional_node.ensures s) (beside (c.in_optional_statement-in-For.ensures s) (c.in_compound-in-For.ensures s))))))

pub in_statement-returns-in-While : goal.in_statement-returns-in-While
in_statement-returns-in-While t c =
    let n = c.in-While in
    let s = c.args.round in
    viewed (ap statement_view n.is ∙ view_while n.attributes n.condition n.body) (inside (kind while_loop) refl
    (beside (c.in_attributes-in-While.ensures s) (beside (c.in_node-in-While.ensures s) (c.in_compound-in-While.ensures s))))

pub in_statement-returns-in-Return : goal.in_statement-returns-in-Return
in_statement-returns-in-Return t c =
    let n = c.in-Return in
    let s = c.args.round in
    viewed (ap statement_view n.is ∙ view_return n.attributes n.expression) (inside (kind return) refl (beside (c.in_attributes-in-Return.ensures s) (c.in_optional_node-in-Return.ensures s)))

pub in_statement-returns-in-FunctionCall : goal.in_statement-returns-in-FunctionCall
in_statement-returns-in-FunctionCall t c =
    let n = c.in-FunctionCall in
    viewed (ap statement_view n.is ∙ view_call_statement n.attributes n.call) (inside (kind call_statement) refl (beside (c.in_attributes-in-FunctionCall.ensures c.args.round) c.in_call.ensures))

pub in_statement-returns-in-ConstAssert : goal.in_statement-returns-in-ConstAssert
in_statement-returns-in-ConstAssert t c = viewed (ap statement_view c.in-ConstAssert.is ∙ view_const_assert c.in-ConstAssert.assertion) (c.in_assertion.ensures c.args.round)

pub in_statement-returns-in-Declaration : goal.in_statement-returns-in-Declaration
in_statement-returns-in-Declaration t c = viewed (ap statement_view c.in-Declaration.is ∙ view_local c.in-Declaration.declaration) c.in_declaration.ensures

pub in_statement-returns-in-Increment : goal.in_statement-returns-in-Increment
in_statement-returns-in-Increment t c =
    let n = c.in-Increment in
    let s = c.args.round in
    held (before (statement_view c.args.statement.now) end) (stepped s c.args.statement.now n.attributes n.expression n.is) (beside (c.in_attributes-in-Increment.ensures s) (c.in_node-in-Increment.ensures s))

pub in_statement-returns-in-Break : goal.in_statement-returns-in-Break
in_statement-returns-in-Break t c =
    let n = c.in-Break in
    let s = c.args.round in
    held (before (statement_view c.args.statement.now) end) (left s c.args.statement.now n.attributes n.is) (c.in_attributes-in-Break.ensures s)

pub in_optional_statement-returns-in-None : goal.in_optional_statement-returns-in-None
in_optional_statement-returns-in-None t c s = viewed (ap (optional (λ n. statement_tree (box_value n))) c.in-None.is) (none (before (leaf (kind absent)) end) refl)

pub in_optional_statement-returns-in-Some : goal.in_optional_statement-returns-in-Some
in_optional_statement-returns-in-Some t c s =
    viewed (ap (optional (λ n. statement_tree (box_value n))) c.in-Some.is) (inside {r = s} (kind present) refl (boxed statement_view statement_node c.deref.ensures c.deref-in-Some.ensures c.in_statement.ensures))

pub in_statements-loop-node-init : goal.in_statements-loop-node-init
in_statements-loop-node-init t c s = walked_none

pub in_statements-loop-node-preserved : goal.in_statements-loop-node-preserved
in_statements-loop-node-preserved t c s =
    walked_next c.node-item.result (omega arith) c.node-item.is (c.loop-node.invariant s) (inside (at statement_node _ _) refl c.in_statement.ensures)

pub in_statements-returns : goal.in_statements-returns
in_statements-returns t c s = inside (kind statements) refl (walked_all (omega arith) c.deref-node-items.ensures.value (c.loop-node.invariant s))

pub in_compound-returns : goal.in_compound-returns
in_compound-returns t c s = viewed (view_compound c.args.body.now) (inside (kind compound) refl (beside (c.in_attributes.ensures s) (c.in_statements.ensures s)))

pub in_if-returns : goal.in_if-returns
in_if-returns t c s = viewed (view_if_clause c.args.clause.now) (inside (kind if_clause) refl (beside (c.in_node.ensures s) (c.in_compound.ensures s)))

pub in_else_ifs-loop-clause-init : goal.in_else_ifs-loop-clause-init
in_else_ifs-loop-clause-init t c s = walked_none

pub in_else_ifs-loop-clause-preserved : goal.in_else_ifs-loop-clause-preserved
in_else_ifs-loop-clause-preserved t c s =
    let e = c.clause-item.result in
    walked_next e (omega arith) c.clause-item.is (c.loop-clause.invariant s) (viewed (view_else_if e) (inside (kind else_if_clause) refl
    (beside (c.in_attributes.ensures s) (beside (c.in_node.ensures s) (c.in_compound.ensures s)))))

pub in_else_ifs-returns : goal.in_else_ifs-returns
in_else_ifs-returns t c s = inside (kind list) refl (walked_all (omega arith) c.deref-clause-items.ensures.value (c.loop-clause.invariant s))

pub in_optional_else-returns-in-None : goal.in_optional_else-returns-in-None
in_optional_else-returns-in-None t c s = viewed (ap (optional else_view) c.in-None.is) (none (before (leaf (kind absent)) end) refl)

pub in_optional_else-returns-in-Some : goal.in_optional_else-returns-in-Some
in_optional_else-returns-in-Some t c s =
    viewed (ap (optional else_view) c.in-Some.is) (inside (kind present) refl (viewed (view_else c.in-Some.clause) (inside (kind else_clause) refl (beside (c.in_attributes.ensures s) (c.in_compound.ensures s)))))

pub in_clauses-loop-clause-init : goal.in_clauses-loop-clause-init
in_clauses-loop-clause-init t c s = walked_none

pub in_clauses-loop-clause-preserved : goal.in_clauses-loop-clause-preserved
in_clauses-loop-clause-preserved t c s =
    let e = c.clause-item.result in
    walked_next e (omega arith) c.clause-item.is (c.loop-clause.invariant s) (viewed (view_clause e) (inside (kind switch_clause) refl
    (beside (c.in_attributes.ensures s) (beside (c.in_selectors.ensures s) (c.in_compound.ensures s)))))

pub in_clauses-returns : goal.in_clauses-returns
in_clauses-returns t c s = inside (kind clauses) refl (walked_all (omega arith) c.deref-clause-items.ensures.value (c.loop-clause.invariant s))

pub in_optional_continuing-returns-in-None : goal.in_optional_continuing-returns-in-None
in_optional_continuing-returns-in-None t c s = viewed (ap (optional continuing_view) c.in-None.is) (none (before (leaf (kind absent)) end) refl)

pub in_optional_continuing-returns-in-Some : goal.in_optional_continuing-returns-in-Some
in_optional_continuing-returns-in-Some t c s =
    viewed (ap (optional continuing_view) c.in-Some.is) (inside (kind present) refl (viewed (view_continuing c.in-Some.continuing) (inside (kind continuing) refl
    (beside (c.in_attributes.ensures s) (beside (c.in_compound.ensures s) (c.in_optional_break_if.ensures s))))))
