use Rattle.std.proofs.Common.{◌∙◌, ap, arith, refl}
use Rattle.std.specs.Box.{box_value}
use Rattle.wesl_tree_syntax.specs.Tree.{at, clauses, compound, compound_statement, continuing, else_clause, else_if_clause, for_loop, if_clause, if_statement, kind, list, loop, present, statement_node, statements, switch, switch_clause, while_loop}
use Rattle.wesl_tree_syntax.specs.View.{attributes_tree, continuing_view, else_view, expression_tree, optional, statement_tree, statement_view}
use Rattle.wesl_scope_words.proofs.Attributes.{attributes_quiet, break_if_quiet, node_quiet, optional_node_quiet, selectors_quiet}
use Rattle.wesl_scope_words.proofs.Expressions.{call_quiet}
use Rattle.wesl_scope_words.proofs.Steps.{alone_quiet, beside, beyond, inside, placed_at, still, viewed, walked_all, walked_next, walked_none}
use Rattle.wesl_scope_words.proofs.statements.+statements.Goals as goal
use Rattle.wesl_tree_syntax.proofs.Views.{view_assignment, view_block, view_break, view_call_statement, view_clause, view_compound, view_const_assert, view_continue, view_continuing, view_decrement, view_discard, view_else, view_else_if, view_for, view_if, view_if_clause, view_increment, view_local, view_loop, view_return, view_switch, view_while}

pub in_statement-returns-in-Compound : goal.in_statement-returns-in-Compound
in_statement-returns-in-Compound t c =
    viewed (ap statement_view c.in-Compound.is ∙ view_block c.in-Compound.body) (inside (kind compound_statement) refl c.in_compound.ensures)

pub in_statement-returns-in-Assignment : goal.in_statement-returns-in-Assignment
in_statement-returns-in-Assignment t c =
    let n = c.in-Assignment in
    still (ap statement_view n.is ∙ view_assignment n.attributes n.operator n.lhs n.rhs) (rw (attributes_quiet n.attributes, node_quiet n.lhs, node_quiet n.rhs) refl)

pub in_statement-returns-in-Increment : goal.in_statement-returns-in-Increment
in_statement-returns-in-Increment t c =
    let n = c.in-Increment in
    still (ap statement_view n.is ∙ view_increment n.attributes n.expression) (rw (attributes_quiet n.attributes, node_quiet n.expression) refl)

pub in_statement-returns-in-Decrement : goal.in_statement-returns-in-Decrement
in_statement-returns-in-Decrement t c =
    let n = c.in-Decrement in
    still (ap statement_view n.is ∙ view_decrement n.attributes n.expression) (rw (attributes_quiet n.attributes, node_quiet n.expression) refl)

pub in_statement-returns-in-If : goal.in_statement-returns-in-If
in_statement-returns-in-If t c =
    let n = c.in-If in
    viewed (ap statement_view n.is ∙ view_if n.attributes n.if_clause n.else_if_clauses n.else_clause) (inside (kind if_statement) refl (beyond (attributes_tree n.attributes) (attributes_quiet n.attributes)
    (beside (viewed (view_if_clause n.if_clause) (inside (kind if_clause) refl (beyond (expression_tree n.if_clause.expression) (node_quiet n.if_clause.expression) c.in_compound-in-If.ensures)))
    (beside (inside (kind list) refl c.in_else_ifs.ensures) c.in_optional_else.ensures))))

pub in_statement-returns-in-Switch : goal.in_statement-returns-in-Switch
in_statement-returns-in-Switch t c =
    let n = c.in-Switch in
    viewed (ap statement_view n.is ∙ view_switch n.attributes n.expression n.body_attributes n.clauses) (inside (kind switch) refl (beyond (attributes_tree n.attributes) (attributes_quiet n.attributes)
    (beyond (expression_tree n.expression) (node_quiet n.expression) (beyond (attributes_tree n.body_attributes) (attributes_quiet n.body_attributes) (inside (kind clauses) refl c.in_clauses.ensures)))))

pub in_statement-returns-in-Loop : goal.in_statement-returns-in-Loop
in_statement-returns-in-Loop t c =
    let n = c.in-Loop in
    viewed (ap statement_view n.is ∙ view_loop n.attributes n.body n.continuing) (inside (kind loop) refl (beyond (attributes_tree n.attributes) (attributes_quiet n.attributes) (beside c.in_compound-in-Loop.ensures c.in_optional_continuing.ensures)))

pub in_statement-returns-in-For : goal.in_statement-returns-in-For
in_statement-returns-in-For t c =
    let n = c.in-For in
    viewed (ap statement_view n.is ∙ view_for n.attributes n.initializer n.condition n.update n.body) (inside (kind for_loop) refl (beyond (attributes_tree n.attributes) (attributes_quiet n.attributes)
    (beside c.in_optional_statement.ensures (beyond (optional expression_tree n.condition) (optional_node_quiet n.condition) (beside c.in_optional_statement-in-For.ensures c.in_compound-in-For.ensures)))))

pub in_statement-returns-in-While : goal.in_statement-returns-in-While
in_statement-returns-in-While t c =
    let n = c.in-While in
    viewed (ap statement_view n.is ∙ view_while n.attributes n.condition n.body) (inside (kind while_loop) refl (beyond (attributes_tree n.attributes) (attributes_quiet n.attributes) (beyond (expression_tree n.condition) (node_quiet n.condition) c.in_compound-in-While.ensures)))

pub in_statement-returns-in-Break : goal.in_statement-returns-in-Break
in_statement-returns-in-Break t c =
    still (ap statement_view c.in-Break.is ∙ view_break c.in-Break.attributes) (rw (attributes_quiet c.in-Break.attributes) refl)

pub in_statement-returns-in-Continue : goal.in_statement-returns-in-Continue
in_statement-returns-in-Continue t c =
    still (ap statement_view c.in-Continue.is ∙ view_continue c.in-Continue.attributes) (rw (attributes_quiet c.in-Continue.attributes) refl)

pub in_statement-returns-in-Discard : goal.in_statement-returns-in-Discard
in_statement-returns-in-Discard t c =
    still (ap statement_view c.in-Discard.is ∙ view_discard c.in-Discard.attributes) (rw (attributes_quiet c.in-Discard.attributes) refl)

pub in_statement-returns-in-Return : goal.in_statement-returns-in-Return
in_statement-returns-in-Return t c =
    let n = c.in-Return in
    still (ap statement_view n.is ∙ view_return n.attributes n.expression) (rw (attributes_quiet n.attributes, optional_node_quiet n.expression) refl)

pub in_statement-returns-in-FunctionCall : goal.in_statement-returns-in-FunctionCall
in_statement-returns-in-FunctionCall t c =
    let n = c.in-FunctionCall in
    still (ap statement_view n.is ∙ view_call_statement n.attributes n.call) (rw (attributes_quiet n.attributes, call_quiet n.call) refl)

pub in_statement-returns-in-ConstAssert : goal.in_statement-returns-in-ConstAssert
in_statement-returns-in-ConstAssert t c =
    let n = c.in-ConstAssert.field-0 in
    still (ap statement_view c.in-ConstAssert.is ∙ view_const_assert n) (rw (attributes_quiet n.attributes, node_quiet n.expression) refl)

pub in_statement-returns-in-Declaration : goal.in_statement-returns-in-Declaration
in_statement-returns-in-Declaration t c =
    viewed (ap statement_view c.in-Declaration.is ∙ view_local c.in-Declaration.declaration) c.in_declaration.ensures

pub in_compound-returns : goal.in_compound-returns
in_compound-returns t c =
    let b = c.args.body.now in
    viewed (view_compound b) (inside (kind compound) refl (beyond (attributes_tree b.attributes) (attributes_quiet b.attributes) (inside (kind statements) refl c.in_statements.ensures)))

pub in_optional_else-returns-in-Some : goal.in_optional_else-returns-in-Some
in_optional_else-returns-in-Some t c =
    let e = c.in-Some.clause in
    viewed (ap (optional else_view) c.in-Some.is) (inside (kind present) refl (viewed (view_else e) (inside (kind else_clause) refl (beyond (attributes_tree e.attributes) (attributes_quiet e.attributes) c.in_compound.ensures))))

pub in_optional_continuing-returns-in-Some : goal.in_optional_continuing-returns-in-Some
in_optional_continuing-returns-in-Some t c =
    let e = c.in-Some.continuing in
    viewed (ap (optional continuing_view) c.in-Some.is) (inside (kind present) refl (viewed (view_continuing e) (inside (kind continuing) refl (beyond (attributes_tree e.attributes) (attributes_quiet e.attributes) (beside c.in_compound.ensures (alone_quiet _ (break_if_quiet e.break_if)))))))

pub in_else_ifs-loop-clause-init : goal.in_else_ifs-loop-clause-init
in_else_ifs-loop-clause-init t c = walked_none

pub in_else_ifs-loop-clause-preserved : goal.in_else_ifs-loop-clause-preserved
in_else_ifs-loop-clause-preserved t c =
    let e = c.clause-item.result in
    walked_next e (omega arith) c.clause-item.is c.loop-clause.invariant (viewed (view_else_if e) (inside (kind else_if_clause) refl (beyond (attributes_tree e.attributes) (attributes_quiet e.attributes) (beyond (expression_tree e.expression) (node_quiet e.expression) c.in_compound.ensures))))

pub in_else_ifs-returns : goal.in_else_ifs-returns
in_else_ifs-returns t c = walked_all (omega arith) c.deref-clause-items.ensures.value c.loop-clause.invariant

pub in_clauses-loop-clause-init : goal.in_clauses-loop-clause-init
in_clauses-loop-clause-init t c = walked_none

pub in_clauses-loop-clause-preserved : goal.in_clauses-loop-clause-preserved
in_clauses-loop-clause-preserved t c =
    let e = c.clause-item.result in
    walked_next e (omega arith) c.clause-item.is c.loop-clause.invariant (viewed (view_clause e) (inside (kind switch_clause) refl (beyond (attributes_tree e.attributes) (attributes_quiet e.attributes) (beyond _ (selectors_quiet e.case_selectors) c.in_compound.ensures))))

pub in_clauses-returns : goal.in_clauses-returns
in_clauses-returns t c = walked_all (omega arith) c.deref-clause-items.ensures.value c.loop-clause.invariant

pub in_statements-loop-node-init : goal.in_statements-loop-node-init
in_statements-loop-node-init t c = walked_none

pub in_statements-loop-node-preserved : goal.in_statements-loop-node-preserved
in_statements-loop-node-preserved t c =
    walked_next c.node-item.result (omega arith) c.node-item.is c.loop-node.invariant (inside (at statement_node _ _) refl c.in_statement.ensures)

pub in_statements-returns : goal.in_statements-returns
in_statements-returns t c = walked_all (omega arith) c.deref-node-items.ensures.value c.loop-node.invariant

pub in_optional_statement-returns-in-Some : goal.in_optional_statement-returns-in-Some
in_optional_statement-returns-in-Some t c =
    viewed (ap (optional (λ s. statement_tree (box_value s))) c.in-Some.is) (inside (kind present) refl (placed_at statement_tree c.deref.ensures (inside (at statement_node _ _) refl c.in_statement.ensures)))
