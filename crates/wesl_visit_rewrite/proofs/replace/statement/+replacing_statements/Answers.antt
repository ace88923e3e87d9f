use Rattle.std.proofs.Common.{get_or, refl, ap, ◌∙◌, subst, arith, Some}
use Rattle.std.specs.Box.{box_value, with_value}
use Rattle.std.specs.Vec.{with_items}
use Rattle.wesl_tree_syntax.specs.Tree.{assignment, break, call_statement, clauses, compound, compound_statement, continue, continuing, decrement, discard, else_clause, else_if_clause, for_loop, if_clause, if_statement, increment, kind, list, loop, present, return, statements, switch, switch_clause, while_loop}
use Rattle.wesl_tree_syntax.specs.View.{assert_view, attributes_tree, call_view, clause_view, compound_view, continuing_view, declaration_view, else_if_view, else_view, expression_tree, if_view, listed, optional, selector_view, statement_tree, statement_view}
use Rattle.wesl_tree_syntax.specs.declared.span.Spanned.{Spanned}
use Rattle.wesl_tree_syntax.specs.declared.statement.CompoundStatement.{out-CompoundStatement}
use Rattle.wesl_tree_syntax.specs.declared.statement.ContinuingStatement.{roll-ContinuingStatement}
use Rattle.wesl_tree_syntax.specs.declared.statement.ElseClause.{roll-ElseClause}
use Rattle.wesl_tree_syntax.specs.declared.statement.ElseIfClause.{out-ElseIfClause}
use Rattle.wesl_tree_syntax.specs.declared.statement.IfClause.{out-IfClause}
use Rattle.wesl_tree_syntax.specs.declared.statement.Statement.{Statement, out-Statement}
use Rattle.wesl_tree_syntax.specs.declared.statement.SwitchClause.{out-SwitchClause}
use Rattle.wesl_visit_collect.specs.Picks.{seeks_statements}
use Rattle.wesl_visit_collect.specs.Finished.{Finished}
use Rattle.wesl_visit_rewrite.proofs.Statements.{CompoundStatement_is, CompoundStatement_of, ContinuingStatement_is, ContinuingStatement_of, ElseClause_is, ElseClause_of, ElseIfClause_is, ElseIfClause_of, IfClause_is, IfClause_of, SwitchClause_is, SwitchClause_of}
use Rattle.wesl_visit_rewrite.proofs.Steps.{beside, first_all, first_none, from, inside, passed_step, taken_else, taken_if, unmoved, viewed, went_list}
use Rattle.wesl_visit_rewrite.proofs.replace.statement.+replacing_statements.Goals as goal
use Rattle.wesl_tree_syntax.proofs.Views.{view_block, view_break, view_call_statement, view_const_assert, view_continue, view_decrement, view_discard, view_for, view_if, view_increment, view_local, view_loop, view_return, view_switch, view_void, view_while}
use Rattle.wesl_visit_collect.proofs.Statements.{view_Assignment}

pub in_statement-returns-in-Void : goal.in_statement-returns-in-Void
in_statement-returns-in-Void g t c =
    let p = ap statement_view c.in-Void.is ∙ view_void in
    viewed _ _ p p (unmoved _ refl)

pub in_statement-returns-in-Compound : goal.in_statement-returns-in-Compound
unfolding out-Statement denote.Hole.Carrier.out
in_statement-returns-in-Compound g t c =
    let b = c.in-Compound in
    let d0 = c.in_compound in
    rw b.is (viewed _ _ (view_block b.body) (view_block d0.new.body)
    (inside (kind compound_statement) refl refl (from compound_view b.body-is d0.ensures)))

pub in_statement-returns-in-Assignment : goal.in_statement-returns-in-Assignment
unfolding out-Statement denote.Hole.Carrier.out
in_statement-returns-in-Assignment g t c =
    let b = c.in-Assignment in
    let d0 = c.at_attributes-goes in
    let d1 = c.at_expression-goes in
    let d2 = c.at_expression in
    rw b.is (viewed _ _ (view_Assignment b.attributes _ b.lhs b.rhs) (view_Assignment d0.new.attributes _ d1.new.node d2.new.node)
    (inside (assignment _) refl refl (beside (from attributes_tree b.attributes-is d0.ensures) (beside (from expression_tree b.lhs-is d1.ensures) (from expression_tree b.rhs-is d2.ensures)))))

pub in_statement-returns-in-Increment : goal.in_statement-returns-in-Increment
in_statement-returns-in-Increment g t c =
    let b = c.in-Increment in
    let d0 = c.at_attributes-goes-in-Increment in
    let d1 = c.at_expression-in-Increment in
    viewed _ _ (ap statement_view b.is ∙ view_increment b.attributes b.expression) (view_increment d0.new.attributes d1.new.node)
    (inside (kind increment) refl refl (beside (from attributes_tree b.attributes-is d0.ensures) (from expression_tree b.expression-is d1.ensures)))

pub in_statement-returns-in-Decrement : goal.in_statement-returns-in-Decrement
in_statement-returns-in-Decrement g t c =
    let b = c.in-Decrement in
    let d0 = c.at_attributes-goes-in-Decrement in
    let d1 = c.at_expression-in-Decrement in
    viewed _ _ (ap statement_view b.is ∙ view_decrement b.attributes b.expression) (view_decrement d0.new.attributes d1.new.node)
    (inside (kind decrement) refl refl (beside (from attributes_tree b.attributes-is d0.ensures) (from expression_tree b.expression-is d1.ensures)))

pub in_statement-returns-in-If : goal.in_statement-returns-in-If
in_statement-returns-in-If g t c =
    let b = c.in-If in
    let d0 = c.at_attributes-goes-in-If in
    let d1 = c.in_if-goes in
    let d2 = c.in_else_ifs-goes in
    let d3 = c.in_optional_else in
    viewed _ _ (ap statement_view b.is ∙ view_if b.attributes b.if_clause b.else_if_clauses b.else_clause) (view_if d0.new.attributes d1.new.clause d2.new.clauses d3.new.clause)
    (inside (kind if_statement) refl refl (beside (from attributes_tree b.attributes-is d0.ensures) (beside (from if_view b.if_clause-is d1.ensures) (beside (from (listed else_if_view list) b.else_if_clauses-is d2.ensures) (from (optional else_view) b.else_clause-is d3.ensures)))))

pub in_statement-returns-in-Switch : goal.in_statement-returns-in-Switch
in_statement-returns-in-Switch g t c =
    let b = c.in-Switch in
    let d0 = c.at_attributes-goes-in-Switch in
    let d1 = c.at_expression-goes-in-Switch in
    let d2 = c.at_attributes-goes-in-Switch-2 in
    let d3 = c.in_clauses in
    viewed _ _ (ap statement_view b.is ∙ view_switch b.attributes b.expression b.body_attributes b.clauses) (view_switch d0.new.attributes d1.new.node d2.new.attributes d3.new.clauses)
    (inside (kind switch) refl refl (beside (from attributes_tree b.attributes-is d0.ensures) (beside (from expression_tree b.expression-is d1.ensures) (beside (from attributes_tree b.body_attributes-is d2.ensures) (from (listed clause_view clauses) b.clauses-is d3.ensures)))))

pub in_statement-returns-in-Loop : goal.in_statement-returns-in-Loop
in_statement-returns-in-Loop g t c =
    let b = c.in-Loop in
    let d0 = c.at_attributes-goes-in-Loop in
    let d1 = c.in_compound-goes in
    let d2 = c.in_optional_continuing in
    viewed _ _ (ap statement_view b.is ∙ view_loop b.attributes b.body b.continuing) (view_loop d0.new.attributes d1.new.body d2.new.continuing)
    (inside (kind loop) refl refl (beside (from attributes_tree b.attributes-is d0.ensures) (beside (from compound_view b.body-is d1.ensures) (from (optional continuing_view) b.continuing-is d2.ensures))))

pub in_statement-returns-in-For : goal.in_statement-returns-in-For
in_statement-returns-in-For g t c =
    let b = c.in-For in
    let d0 = c.at_attributes-goes-in-For in
    let d1 = c.at_optional_statement-goes in
    let d2 = c.at_optional_expression-goes in
    let d3 = c.at_optional_statement-goes-in-For in
    let d4 = c.in_compound-in-For in
    viewed _ _ (ap statement_view b.is ∙ view_for b.attributes b.initializer b.condition b.update b.body) (view_for d0.new.attributes d1.new.node d2.new.node d3.new.node d4.new.body)
    (inside (kind for_loop) refl refl (beside (from attributes_tree b.attributes-is d0.ensures) (beside (from (optional (λ s. statement_tree (box_value s))) b.initializer-is d1.ensures) (beside (from (optional expression_tree) b.condition-is d2.ensures) (beside (from (optional (λ s. statement_tree (box_value s))) b.update-is d3.ensures) (from compound_view b.body-is d4.ensures))))))

pub in_statement-returns-in-While : goal.in_statement-returns-in-While
in_statement-returns-in-While g t c =
    let b = c.in-While in
    let d0 = c.at_attributes-goes-in-While in
    let d1 = c.at_expression-goes-in-While in
    let d2 = c.in_compound-in-While in
    viewed _ _ (ap statement_view b.is ∙ view_while b.attributes b.condition b.body) (view_while d0.new.attributes d1.new.node d2.new.body)
    (inside (kind while_loop) refl refl (beside (from attributes_tree b.attributes-is d0.ensures) (beside (from expression_tree b.condition-is d1.ensures) (from compound_view b.body-is d2.ensures))))

pub in_statement-returns-in-Break : goal.in_statement-returns-in-Break
unfolding out-Statement denote.Hole.Carrier.out
in_statement-returns-in-Break g t c =
    let b = c.in-Break in
    let d0 = c.at_attributes in
    rw b.is (viewed _ _ (view_break b.attributes) (view_break d0.new.attributes)
    (inside (kind break) refl refl (from attributes_tree b.attributes-is d0.ensures)))

pub in_statement-returns-in-Continue : goal.in_statement-returns-in-Continue
unfolding out-Statement denote.Hole.Carrier.out
in_statement-returns-in-Continue g t c =
    let b = c.in-Continue in
    let d0 = c.at_attributes-in-Continue in
    rw b.is (viewed _ _ (view_continue b.attributes) (view_continue d0.new.attributes)
    (inside (kind continue) refl refl (from attributes_tree b.attributes-is d0.ensures)))

pub in_statement-returns-in-Return : goal.in_statement-returns-in-Return
in_statement-returns-in-Return g t c =
    let b = c.in-Return in
    let d0 = c.at_attributes-goes-in-Return in
    let d1 = c.at_optional_expression in
    viewed _ _ (ap statement_view b.is ∙ view_return b.attributes b.expression) (view_return d0.new.attributes d1.new.node)
    (inside (kind return) refl refl (beside (from attributes_tree b.attributes-is d0.ensures) (from (optional expression_tree) b.expression-is d1.ensures)))

pub in_statement-returns-in-Discard : goal.in_statement-returns-in-Discard
unfolding out-Statement denote.Hole.Carrier.out
in_statement-returns-in-Discard g t c =
    let b = c.in-Discard in
    let d0 = c.at_attributes-in-Discard in
    rw b.is (viewed _ _ (view_discard b.attributes) (view_discard d0.new.attributes)
    (inside (kind discard) refl refl (from attributes_tree b.attributes-is d0.ensures)))

pub in_statement-returns-in-FunctionCall : goal.in_statement-returns-in-FunctionCall
in_statement-returns-in-FunctionCall g t c =
    let b = c.in-FunctionCall in
    let d0 = c.at_attributes-goes-in-FunctionCall in
    let d1 = c.in_call in
    viewed _ _ (ap statement_view b.is ∙ view_call_statement b.attributes b.call) (view_call_statement d0.new.attributes d1.new.call)
    (inside (kind call_statement) refl refl (beside (from attributes_tree b.attributes-is d0.ensures) (from call_view b.call-is d1.ensures)))

pub in_statement-returns-in-ConstAssert : goal.in_statement-returns-in-ConstAssert
unfolding out-Statement denote.Hole.Carrier.out
in_statement-returns-in-ConstAssert g t c =
    let b = c.in-ConstAssert in
    let d0 = c.in_assert in
    rw b.is (viewed _ _ (view_const_assert b.assertion) (view_const_assert d0.new.assertion)
    (from assert_view b.assertion-is d0.ensures))

pub in_statement-returns-in-Declaration : goal.in_statement-returns-in-Declaration
unfolding out-Statement denote.Hole.Carrier.out
in_statement-returns-in-Declaration g t c =
    let b = c.in-Declaration in
    let d0 = c.in_declaration in
    rw b.is (viewed _ _ (view_local b.declaration) (view_local d0.new.declaration)
    (from declaration_view b.declaration-is d0.ensures))

pub in_compound-returns : goal.in_compound-returns
in_compound-returns g t c =
    let old = out-CompoundStatement c.args.body.now in
    let d0 = c.at_attributes-goes in
    let d1 = c.at_statements in
    viewed _ _ (CompoundStatement_is c.args.body.now) (CompoundStatement_of d0.new.attributes (with_items old.statements d1.new.statements))
    (inside (kind compound) refl refl (beside d0.ensures (went_list statement_tree statements old.statements _ d1.new.statements refl refl c.deref_mut.ensures.value (omega (arith, d1.auto.statements, c.deref_mut.ensures.len)) d1.ensures)))

pub in_if-returns : goal.in_if-returns
in_if-returns g t c =
    let old = out-IfClause c.args.clause.now in
    let d0 = c.at_expression-goes in
    let d1 = c.in_compound in
    viewed _ _ (IfClause_is c.args.clause.now) (IfClause_of d0.new.node d1.new.body)
    (inside (kind if_clause) refl refl (beside d0.ensures d1.ensures))

pub in_else_if-returns : goal.in_else_if-returns
in_else_if-returns g t c =
    let old = out-ElseIfClause c.args.clause.now in
    let d0 = c.at_attributes-goes in
    let d1 = c.at_expression-goes in
    let d2 = c.in_compound in
    viewed _ _ (ElseIfClause_is c.args.clause.now) (ElseIfClause_of d0.new.attributes d1.new.node d2.new.body)
    (inside (kind else_if_clause) refl refl (beside d0.ensures (beside d1.ensures d2.ensures)))

pub in_clause-returns : goal.in_clause-returns
in_clause-returns g t c =
    let old = out-SwitchClause c.args.clause.now in
    let d0 = c.at_attributes-goes in
    let d1 = c.in_selectors-goes in
    let d2 = c.in_compound in
    viewed _ _ (SwitchClause_is c.args.clause.now) (SwitchClause_of d0.new.attributes (with_items old.case_selectors d1.new.selectors) d2.new.body)
    (inside (kind switch_clause) refl refl (beside d0.ensures (beside (went_list selector_view list old.case_selectors _ d1.new.selectors refl refl c.deref_mut.ensures.value (omega (arith, d1.auto.selectors, c.deref_mut.ensures.len)) d1.ensures) d2.ensures)))

pub in_optional_else-returns-in-None : goal.in_optional_else-returns-in-None
in_optional_else-returns-in-None g t c =
    let p = ap (optional else_view) c.in-None.is in
    viewed _ _ p p (unmoved _ refl)

pub in_optional_else-returns-in-Some : goal.in_optional_else-returns-in-Some
in_optional_else-returns-in-Some g t c =
    let d0 = c.at_attributes-goes in
    let d1 = c.in_compound in
    viewed _ (optional else_view (Some (roll-ElseClause (record { attributes = d0.new.attributes; body = d1.new.body })))) (ap (optional else_view) c.in-Some.is) refl
    (inside (kind present) refl refl (viewed _ _ (ElseClause_is c.in-Some.clause) (ElseClause_of d0.new.attributes d1.new.body) (inside (kind else_clause) refl refl (beside d0.ensures d1.ensures))))

pub in_optional_continuing-returns-in-None : goal.in_optional_continuing-returns-in-None
in_optional_continuing-returns-in-None g t c =
    let p = ap (optional continuing_view) c.in-None.is in
    viewed _ _ p p (unmoved _ refl)

pub in_optional_continuing-returns-in-Some : goal.in_optional_continuing-returns-in-Some
in_optional_continuing-returns-in-Some g t c =
    let d0 = c.at_attributes-goes in
    let d1 = c.in_compound-goes in
    let d2 = c.in_optional_break_if in
    viewed _ (optional continuing_view (Some (roll-ContinuingStatement (record { attributes = d0.new.attributes; body = d1.new.body; break_if = d2.new.break_if })))) (ap (optional continuing_view) c.in-Some.is) refl
    (inside (kind present) refl refl (viewed _ _ (ContinuingStatement_is c.in-Some.continuing) (ContinuingStatement_of d0.new.attributes d1.new.body d2.new.break_if) (inside (kind continuing) refl refl (beside d0.ensures (beside d1.ensures d2.ensures)))))

pub in_else_ifs-returns : goal.in_else_ifs-returns
in_else_ifs-returns g t c =
    let d = c.each_else_if in
    went_list else_if_view list c.args.clauses.now _ d.new.clauses refl refl c.deref_mut.ensures.value (omega (arith, d.auto.clauses, c.deref_mut.ensures.len)) d.ensures

pub in_clauses-returns : goal.in_clauses-returns
in_clauses-returns g t c =
    let d = c.each_clause in
    went_list clause_view clauses c.args.clauses.now _ d.new.clauses refl refl c.deref_mut.ensures.value (omega (arith, d.auto.clauses, c.deref_mut.ensures.len)) d.ensures

pub each_else_if-loop-i-init : goal.each_else_if-loop-i-init
each_else_if-loop-i-init g t c =
    (first_none _ else_if_view _ _, (refl, λ k d h. refl))

pub each_else_if-loop-i-preserved : goal.each_else_if-loop-i-preserved
each_else_if-loop-i-preserved g t c =
    passed_step _ else_if_view c.loop-i.i _ _ _ c.args.clauses.now c.loop-i.clauses c.index-clauses-i.result c.in_else_if-goes.new.clause (omega arith) c.index-clauses-i.is c.loop-i.invariant c.in_else_if-goes.ensures

pub each_else_if-returns : goal.each_else_if-returns
each_else_if-returns g t c =
    first_all _ else_if_view c.loop-i.i _ _ c.args.clauses.now c.loop-i.clauses (omega arith) (omega arith) c.loop-i.invariant.0

pub each_clause-loop-i-init : goal.each_clause-loop-i-init
each_clause-loop-i-init g t c =
    (first_none _ clause_view _ _, (refl, λ k d h. refl))

pub each_clause-loop-i-preserved : goal.each_clause-loop-i-preserved
each_clause-loop-i-preserved g t c =
    passed_step _ clause_view c.loop-i.i _ _ _ c.args.clauses.now c.loop-i.clauses c.index-clauses-i.result c.in_clause-goes.new.clause (omega arith) c.index-clauses-i.is c.loop-i.invariant c.in_clause-goes.ensures

pub each_clause-returns : goal.each_clause-returns
each_clause-returns g t c =
    first_all _ clause_view c.loop-i.i _ _ c.args.clauses.now c.loop-i.clauses (omega arith) (omega arith) c.loop-i.invariant.0

pub at_statements-loop-i-init : goal.at_statements-loop-i-init
at_statements-loop-i-init g t c =
    (first_none _ statement_tree _ _, (refl, λ k d h. refl))

pub at_statements-loop-i-preserved-then-takes_whole_statements : goal.at_statements-loop-i-preserved-then-takes_whole_statements
at_statements-loop-i-preserved-then-takes_whole_statements g t c =
    let xs = c.loop-i.statements in
    let x = c.index-statements-i.result in
    let d = c.finish_statement-goes in
    passed_step _ statement_tree c.loop-i.i _ _ _ c.args.statements.now xs x d.new.node (omega arith) c.index-statements-i.is c.loop-i.invariant
    (taken_if _ c.takes_whole_statements.result _ _ (statement_tree (get_or xs c.loop-i.i x)) (statement_tree d.new.node) refl c.takes_whole_statements.ensures c.if-takes_whole_statements.true d.ensures)

pub at_statements-loop-i-preserved : goal.at_statements-loop-i-preserved
at_statements-loop-i-preserved g t c =
    let xs = c.loop-i.statements in
    let x = c.index-statements-i.result in
    let d = c.finish_statement-goes-in-loop-i in
    passed_step _ statement_tree c.loop-i.i _ _ _ c.args.statements.now xs x d.new.node (omega arith) c.index-statements-i.is c.loop-i.invariant
    (taken_else _ c.takes_whole_statements.result (statement_tree (get_or xs c.loop-i.i x)).label (statement_tree d.new.node) refl refl c.takes_whole_statements.ensures c.if-takes_whole_statements.false c.in_statement-goes.ensures d.ensures)

pub at_statements-returns : goal.at_statements-returns
at_statements-returns g t c =
    first_all _ statement_tree c.loop-i.i _ _ c.args.statements.now c.loop-i.statements (omega arith) (omega arith) c.loop-i.invariant.0

pub at_optional_statement-returns-in-None : goal.at_optional_statement-returns-in-None
at_optional_statement-returns-in-None g t c =
    let p = ap (optional (λ s. statement_tree (box_value s))) c.in-None.is in
    viewed _ _ p p (unmoved _ refl)

pub at_optional_statement-returns-then-takes_whole_statements : goal.at_optional_statement-returns-then-takes_whole_statements
at_optional_statement-returns-then-takes_whole_statements g t c =
    let d = c.finish_statement in
    let w = c.takes_whole_statements in
    viewed _ (optional (λ s. statement_tree (box_value s)) (Some (with_value c.in-Some.node d.new.node))) (ap (optional (λ s. statement_tree (box_value s))) c.in-Some.is) refl
    (inside (kind present) refl refl (taken_if _ w.result _ _ (statement_tree c.in-Some.node.value) (statement_tree d.new.node) refl w.ensures c.if-takes_whole_statements.true
    (subst (λ (n : Spanned Statement). Finished (seeks_statements g.T.Kind.sought) g.R.Rewrite.rewrites c.args.goes (statement_tree n) d.result (statement_tree d.new.node)) c.deref_mut-node.ensures.value d.ensures)))

pub at_optional_statement-returns-else-takes_whole_statements : goal.at_optional_statement-returns-else-takes_whole_statements
at_optional_statement-returns-else-takes_whole_statements g t c =
    let d = c.finish_statement-else-takes_whole_statements in
    let w = c.takes_whole_statements in
    let e = c.in_statement-goes in
    let s = c.deref_mut-node.result.now in
    viewed _ (optional (λ s. statement_tree (box_value s)) (Some (with_value c.in-Some.node d.new.node))) (ap (optional (λ s. statement_tree (box_value s))) c.in-Some.is) refl
    (inside (kind present) refl refl (from statement_tree c.deref_mut-node.ensures.value (taken_else _ w.result (statement_tree s).label (statement_tree d.new.node) refl refl w.ensures c.if-takes_whole_statements.false e.ensures d.ensures)))
