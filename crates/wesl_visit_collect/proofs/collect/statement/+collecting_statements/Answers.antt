use Rattle.std.proofs.Common.{◌∙◌, ap, arith, refl, sym}
use Rattle.std.specs.Box.{box_value}
use Rattle.wesl_tree_syntax.specs.Tree.{assignment, call_statement, clauses, compound, compound_statement, continuing, else_clause, else_if_clause, for_loop, if_clause, if_statement, kind, list, loop, present, return, statements, switch, switch_clause, while_loop}
use Rattle.wesl_tree_syntax.specs.View.{continuing_view, else_view, optional, statement_tree, statement_view}
use Rattle.wesl_tree_syntax.specs.declared.span.Spanned.{Spanned}
use Rattle.wesl_tree_syntax.specs.declared.statement.Statement.{Statement}
use Rattle.wesl_visit_collect.proofs.Adds.{beside, entered, hollow, inside, passed, placed_at, viewed, walked_all, walked_next, walked_none}
use Rattle.wesl_visit_collect.proofs.Seen.{seen_statement}
use Rattle.wesl_visit_collect.proofs.Statements.{view_Assignment}
use Rattle.wesl_visit_collect.proofs.collect.statement.+collecting_statements.Goals as goal
use Rattle.wesl_tree_syntax.proofs.Views.{view_block, view_call_statement, view_clause, view_compound, view_const_assert, view_continuing, view_else, view_else_if, view_for, view_if, view_if_clause, view_local, view_loop, view_return, view_switch, view_void, view_while}

pub in_statement-returns-in-Void : goal.in_statement-returns-in-Void
in_statement-returns-in-Void g t c =
    viewed (ap statement_view c.in-Void.is ∙ view_void) (hollow _ refl)

pub in_statement-returns-in-Compound : goal.in_statement-returns-in-Compound
in_statement-returns-in-Compound g t c =
    viewed (ap statement_view c.in-Compound.is ∙ view_block c.in-Compound.body) (inside (kind compound_statement) refl (λ f. refl) c.in_compound.ensures)

pub in_statement-returns-in-Assignment : goal.in_statement-returns-in-Assignment
in_statement-returns-in-Assignment g t c =
    viewed (ap statement_view c.in-Assignment.is ∙ view_Assignment c.in-Assignment.attributes c.in-Assignment.operator c.in-Assignment.lhs c.in-Assignment.rhs) (inside (assignment c.in-Assignment.operator) refl (λ f. refl) (beside c.at_attributes.ensures (beside c.at_expression.ensures c.at_expression-in-Assignment.ensures)))

pub in_statement-returns-in-If : goal.in_statement-returns-in-If
in_statement-returns-in-If g t c =
    viewed (ap statement_view c.in-If.is ∙ view_if c.in-If.attributes c.in-If.if_clause c.in-If.else_if_clauses c.in-If.else_clause) (inside (kind if_statement) refl (λ f. refl) (beside c.at_attributes-in-If.ensures (beside (viewed (view_if_clause c.in-If.if_clause) (inside (kind if_clause) refl (λ f. refl) (beside c.at_expression-in-If.ensures c.in_compound-in-If.ensures))) (beside (inside (kind list) refl (λ f. refl) c.in_else_ifs.ensures) c.in_optional_else.ensures))))

pub in_statement-returns-in-Switch : goal.in_statement-returns-in-Switch
in_statement-returns-in-Switch g t c =
    viewed (ap statement_view c.in-Switch.is ∙ view_switch c.in-Switch.attributes c.in-Switch.expression c.in-Switch.body_attributes c.in-Switch.clauses) (inside (kind switch) refl (λ f. refl) (beside c.at_attributes-in-Switch.ensures (beside c.at_expression-in-Switch.ensures (beside c.at_attributes-in-Switch-2.ensures (inside (kind clauses) refl (λ f. refl) c.in_clauses.ensures)))))

pub in_statement-returns-in-Loop : goal.in_statement-returns-in-Loop
in_statement-returns-in-Loop g t c =
    viewed (ap statement_view c.in-Loop.is ∙ view_loop c.in-Loop.attributes c.in-Loop.body c.in-Loop.continuing) (inside (kind loop) refl (λ f. refl) (beside c.at_attributes-in-Loop.ensures (beside c.in_compound-in-Loop.ensures c.in_optional_continuing.ensures)))

pub in_statement-returns-in-For : goal.in_statement-returns-in-For
in_statement-returns-in-For g t c =
    viewed (ap statement_view c.in-For.is ∙ view_for c.in-For.attributes c.in-For.initializer c.in-For.condition c.in-For.update c.in-For.body) (inside (kind for_loop) refl (λ f. refl) (beside c.at_attributes-in-For.ensures (beside c.at_optional_statement.ensures (beside c.at_optional_expression.ensures (beside c.at_optional_statement-in-For.ensures c.in_compound-in-For.ensures)))))

pub in_statement-returns-in-While : goal.in_statement-returns-in-While
in_statement-returns-in-While g t c =
    viewed (ap statement_view c.in-While.is ∙ view_while c.in-While.attributes c.in-While.condition c.in-While.body) (inside (kind while_loop) refl (λ f. refl) (beside c.at_attributes-in-While.ensures (beside c.at_expression-in-While.ensures c.in_compound-in-While.ensures)))

pub in_statement-returns-in-Return : goal.in_statement-returns-in-Return
in_statement-returns-in-Return g t c =
    viewed (ap statement_view c.in-Return.is ∙ view_return c.in-Return.attributes c.in-Return.expression) (inside (kind return) refl (λ f. refl) (beside c.at_attributes-in-Return.ensures c.at_optional_expression-in-Return.ensures))

pub in_statement-returns-in-FunctionCall : goal.in_statement-returns-in-FunctionCall
in_statement-returns-in-FunctionCall g t c =
    viewed (ap statement_view c.in-FunctionCall.is ∙ view_call_statement c.in-FunctionCall.attributes c.in-FunctionCall.call) (inside (kind call_statement) refl (λ f. refl) (beside c.at_attributes-in-FunctionCall.ensures c.in_call.ensures))

pub in_statement-returns-in-ConstAssert : goal.in_statement-returns-in-ConstAssert
in_statement-returns-in-ConstAssert g t c =
    viewed (ap statement_view c.in-ConstAssert.is ∙ view_const_assert c.in-ConstAssert.assertion) c.in_assert.ensures

pub in_statement-returns-in-Declaration : goal.in_statement-returns-in-Declaration
in_statement-returns-in-Declaration g t c =
    viewed (ap statement_view c.in-Declaration.is ∙ view_local c.in-Declaration.declaration) c.in_declaration.ensures

pub in_compound-returns : goal.in_compound-returns
in_compound-returns g t c =
    viewed (view_compound c.args.body.now) (inside (kind compound) refl (λ f. refl) (beside c.at_attributes.ensures (inside (kind statements) refl (λ f. refl) c.at_statements.ensures)))

pub in_else-returns : goal.in_else-returns
in_else-returns g t c =
    viewed (view_else c.args.clause.now) (inside (kind else_clause) refl (λ f. refl) (beside c.at_attributes.ensures c.in_compound.ensures))

pub in_optional_else-returns-in-None : goal.in_optional_else-returns-in-None
in_optional_else-returns-in-None g t c =
    viewed (ap (optional else_view) c.in-None.is) (hollow _ refl)

pub in_optional_else-returns-in-Some : goal.in_optional_else-returns-in-Some
in_optional_else-returns-in-Some g t c =
    viewed (ap (optional else_view) c.in-Some.is) (inside (kind present) refl (λ f. refl) c.in_else.ensures)

pub in_optional_continuing-returns-in-None : goal.in_optional_continuing-returns-in-None
in_optional_continuing-returns-in-None g t c =
    viewed (ap (optional continuing_view) c.in-None.is) (hollow _ refl)

pub in_optional_continuing-returns-in-Some : goal.in_optional_continuing-returns-in-Some
in_optional_continuing-returns-in-Some g t c =
    viewed (ap (optional continuing_view) c.in-Some.is) (inside (kind present) refl (λ f. refl)
    (viewed (view_continuing c.in-Some.continuing) (inside (kind continuing) refl (λ f. refl) (beside c.at_attributes.ensures (beside c.in_compound.ensures c.in_optional_break_if.ensures)))))

pub in_else_ifs-loop-clause-init : goal.in_else_ifs-loop-clause-init
in_else_ifs-loop-clause-init g t c =
    walked_none

pub in_else_ifs-loop-clause-preserved : goal.in_else_ifs-loop-clause-preserved
in_else_ifs-loop-clause-preserved g t c =
    walked_next c.clause-item.result (omega arith) c.clause-item.is c.loop-clause.invariant (viewed (view_else_if c.clause-item.result) (inside (kind else_if_clause) refl (λ f. refl) (beside c.at_attributes.ensures (beside c.at_expression.ensures c.in_compound.ensures))))

pub in_else_ifs-returns : goal.in_else_ifs-returns
in_else_ifs-returns g t c =
    walked_all (omega arith) c.deref-clause-items.ensures.value c.loop-clause.invariant

pub in_clauses-loop-clause-init : goal.in_clauses-loop-clause-init
in_clauses-loop-clause-init g t c =
    walked_none

pub in_clauses-loop-clause-preserved : goal.in_clauses-loop-clause-preserved
in_clauses-loop-clause-preserved g t c =
    walked_next c.clause-item.result (omega arith) c.clause-item.is c.loop-clause.invariant (viewed (view_clause c.clause-item.result) (inside (kind switch_clause) refl (λ f. refl) (beside c.at_attributes.ensures (beside (inside (kind list) refl (λ f. refl) c.in_selectors.ensures) c.in_compound.ensures))))

pub in_clauses-returns : goal.in_clauses-returns
in_clauses-returns g t c =
    walked_all (omega arith) c.deref-clause-items.ensures.value c.loop-clause.invariant

pub at_statements-loop-node-init : goal.at_statements-loop-node-init
at_statements-loop-node-init g t c =
    walked_none

pub at_statements-loop-node-preserved : goal.at_statements-loop-node-preserved
at_statements-loop-node-preserved g t c =
    walked_next c.node-item.result (omega arith) c.node-item.is c.loop-node.invariant (entered (seen_statement g.T.Kind.sought c.node-item.result) c.if-not-enter.false c.enter.ensures c.in_statement.ensures)

pub at_statements-loop-node-preserved-then-not-enter : goal.at_statements-loop-node-preserved-then-not-enter
at_statements-loop-node-preserved-then-not-enter g t c =
    walked_next c.node-item.result (omega arith) c.node-item.is c.loop-node.invariant (passed (seen_statement g.T.Kind.sought c.node-item.result) c.if-not-enter.true c.enter.ensures)

pub at_statements-returns : goal.at_statements-returns
at_statements-returns g t c =
    walked_all (omega arith) c.deref-node-items.ensures.value c.loop-node.invariant

pub at_optional_statement-returns-in-None : goal.at_optional_statement-returns-in-None
at_optional_statement-returns-in-None g t c =
    viewed (ap (optional (λ s. statement_tree (box_value s))) c.in-None.is) (hollow _ refl)

pub at_optional_statement-returns-then-enter : goal.at_optional_statement-returns-then-enter
at_optional_statement-returns-then-enter g t c =
    viewed (ap (optional (λ s. statement_tree (box_value s))) c.in-Some.is) (inside (kind present) refl (λ f. refl) (placed_at statement_tree c.deref.ensures (entered (seen_statement g.T.Kind.sought c.deref.result.now) c.if-enter.true c.enter.ensures
    (placed_at (λ (n : Spanned Statement). statement_view n.node) (c.deref-then-enter.ensures ∙ sym c.deref.ensures) c.in_statement.ensures))))

pub at_optional_statement-returns-else-enter : goal.at_optional_statement-returns-else-enter
at_optional_statement-returns-else-enter g t c =
    viewed (ap (optional (λ s. statement_tree (box_value s))) c.in-Some.is) (inside (kind present) refl (λ f. refl) (placed_at statement_tree c.deref.ensures (passed (seen_statement g.T.Kind.sought c.deref.result.now) c.if-enter.false c.enter.ensures)))
