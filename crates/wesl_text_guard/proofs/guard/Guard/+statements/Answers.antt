use Rattle.wesl_text_guard.specs.Guards.{as_it_is, as_item}
use Rattle.std.proofs.Common.{ap, arith, get_or, refl, ◌∙◌}
use Rattle.std.specs.Box.{box_value}
use Rattle.wesl_tree_syntax.specs.Tree.{assignment, break, call_statement, clauses, compound, compound_statement, continue, continuing, decrement, discard, else_clause, else_if_clause, for_loop, if_clause, if_statement, increment, list, loop, present, return, statement_node, statements, switch, switch_clause, while_loop}
use Rattle.wesl_tree_syntax.specs.View.{assert_view, attributes_tree, call_view, clause_view, compound_view, continuing_view, declaration_view, else_if_view, else_view, expression_tree, if_view, listed, optional, statement_tree, statement_view}
use Rattle.wesl_tree_syntax.specs.declared.statement.Statement.{out-Statement}
use Rattle.wesl_tree_copies.proofs.Views.{view_assignment}
use Rattle.wesl_text_guard.proofs.Listed.{all_guarded, list_asks, none_yet, nothing_asked, passed_more}
use Rattle.wesl_text_guard.proofs.Parts.{else_if_listed, from, nothing, of_kind, of_label, of_place, seen, then}
use Rattle.wesl_text_guard.proofs.guard.Guard.+statements.Goals as goal
use Rattle.wesl_tree_syntax.proofs.Views.{view_block, view_break, view_call_statement, view_clause, view_clause_of, view_compound, view_compound_of, view_const_assert, view_continue, view_continuing, view_continuing_of, view_decrement, view_discard, view_else, view_else_if, view_else_if_of, view_else_of, view_for, view_if, view_if_clause, view_if_clause_of, view_increment, view_local, view_loop, view_return, view_switch, view_while}

pub statements-loop-node-init : goal.statements-loop-node-init
statements-loop-node-init t c = ((refl, λ k d h. refl), none_yet as_it_is statement_tree _ _)

pub statements-loop-node-preserved : goal.statements-loop-node-preserved
statements-loop-node-preserved t c =
    let l = c.loop-node in
    let x = get_or l.node-items l.node-index c.node-item.result in
    passed_more as_it_is statement_tree c.node-item.result _ (omega arith) l.invariant (of_place statement_view statement_node x c.statement.new.statement c.statement.ensures)

pub statements-returns : goal.statements-returns
statements-returns t c =
    let l = c.loop-node in
    let lent = c.deref_mut-node-items in
    all_guarded as_it_is statement_tree statements (nothing_asked statement_tree) c.args.nodes.now l.invariant.1 lent.ensures.value (omega (arith, l.auto.node-items, lent.ensures.len)) (omega arith)

pub else_if_clauses-loop-clause-init : goal.else_if_clauses-loop-clause-init
else_if_clauses-loop-clause-init t c = ((refl, λ k d h. refl), none_yet as_item else_if_view _ _)

pub else_if_clauses-loop-clause-preserved : goal.else_if_clauses-loop-clause-preserved
else_if_clauses-loop-clause-preserved t c =
    let l = c.loop-clause in
    passed_more as_item else_if_view c.clause-item.result c.else_if_clause.new.clause (omega arith) l.invariant (else_if_listed _ _ c.else_if_clause.ensures)

pub else_if_clauses-returns : goal.else_if_clauses-returns
else_if_clauses-returns t c =
    let l = c.loop-clause in
    let lent = c.deref_mut-clause-items in
    all_guarded as_item else_if_view list (list_asks else_if_view) c.args.clauses.now l.invariant.1 lent.ensures.value (omega (arith, l.auto.clause-items, lent.ensures.len)) (omega arith)

pub clauses-loop-clause-init : goal.clauses-loop-clause-init
clauses-loop-clause-init t c = ((refl, λ k d h. refl), none_yet as_it_is clause_view _ _)

pub clauses-loop-clause-preserved : goal.clauses-loop-clause-preserved
clauses-loop-clause-preserved t c =
    let l = c.loop-clause in
    passed_more as_it_is clause_view c.clause-item.result c.clause.new.clause (omega arith) l.invariant c.clause.ensures

pub clauses-returns : goal.clauses-returns
clauses-returns t c =
    let l = c.loop-clause in
    let lent = c.deref_mut-clause-items in
    all_guarded as_it_is clause_view clauses (nothing_asked clause_view) c.args.clauses.now l.invariant.1 lent.ensures.value (omega (arith, l.auto.clause-items, lent.ensures.len)) (omega arith)

pub statement-returns-in-Compound : goal.statement-returns-in-Compound
unfolding out-Statement denote.Hole.Carrier.out
statement-returns-in-Compound t c =
    let b = c.in-Compound in
    rw b.is (seen (view_block b.body) (view_block c.compound.new.body)
    (of_kind compound_statement (λ b f. refl) (then (from compound_view b.body-is c.compound.ensures) nothing)))

pub statement-returns-in-Assignment : goal.statement-returns-in-Assignment
unfolding out-Statement denote.Hole.Carrier.out
statement-returns-in-Assignment t c =
    let b = c.in-Assignment in
    rw b.is (seen (view_assignment b.attributes _ b.lhs b.rhs) (view_assignment c.attributes.new.attributes _ c.node.new.node c.node-in-Assignment.new.node)
    (of_label (assignment _) (λ b f. refl) (then (from attributes_tree b.attributes-is c.attributes.ensures) (then (from expression_tree b.lhs-is c.node.ensures) (then (from expression_tree b.rhs-is c.node-in-Assignment.ensures) nothing)))))

pub statement-returns-in-Increment : goal.statement-returns-in-Increment
statement-returns-in-Increment t c =
    let b = c.in-Increment in
    seen (ap statement_view b.is ∙ view_increment b.attributes b.expression) (view_increment c.attributes-in-Increment.new.attributes c.node-in-Increment.new.node)
    (of_kind increment (λ b f. refl) (then (from attributes_tree b.attributes-is c.attributes-in-Increment.ensures) (then (from expression_tree b.expression-is c.node-in-Increment.ensures) nothing)))

pub statement-returns-in-Decrement : goal.statement-returns-in-Decrement
statement-returns-in-Decrement t c =
    let b = c.in-Decrement in
    seen (ap statement_view b.is ∙ view_decrement b.attributes b.expression) (view_decrement c.attributes-in-Decrement.new.attributes c.node-in-Decrement.new.node)
    (of_kind decrement (λ b f. refl) (then (from attributes_tree b.attributes-is c.attributes-in-Decrement.ensures) (then (from expression_tree b.expression-is c.node-in-Decrement.ensures) nothing)))

pub statement-returns-in-If : goal.statement-returns-in-If
statement-returns-in-If t c =
    let b = c.in-If in
    seen (ap statement_view b.is ∙ view_if b.attributes b.if_clause b.else_if_clauses b.else_clause) (view_if c.attributes-in-If.new.attributes c.if_clause.new.clause c.else_if_clauses.new.clauses c.optional_else.new.clause)
    (of_kind if_statement (λ b f. refl) (then (from attributes_tree b.attributes-is c.attributes-in-If.ensures) (then (from if_view b.if_clause-is c.if_clause.ensures) (then (from (listed else_if_view list) b.else_if_clauses-is c.else_if_clauses.ensures) (then (from (optional else_view) b.else_clause-is c.optional_else.ensures) nothing)))))

pub statement-returns-in-Switch : goal.statement-returns-in-Switch
statement-returns-in-Switch t c =
    let b = c.in-Switch in
    seen (ap statement_view b.is ∙ view_switch b.attributes b.expression b.body_attributes b.clauses) (view_switch c.attributes-in-Switch.new.attributes c.node-in-Switch.new.node c.attributes-in-Switch-2.new.attributes c.clauses.new.clauses)
    (of_kind switch (λ b f. refl) (then (from attributes_tree b.attributes-is c.attributes-in-Switch.ensures) (then (from expression_tree b.expression-is c.node-in-Switch.ensures) (then (from attributes_tree b.body_attributes-is c.attributes-in-Switch-2.ensures) (then (from (listed clause_view clauses) b.clauses-is c.clauses.ensures) nothing)))))

pub statement-returns-in-Loop : goal.statement-returns-in-Loop
statement-returns-in-Loop t c =
    let b = c.in-Loop in
    seen (ap statement_view b.is ∙ view_loop b.attributes b.body b.continuing) (view_loop c.attributes-in-Loop.new.attributes c.compound-in-Loop.new.body c.optional_continuing.new.continuing)
    (of_kind loop (λ b f. refl) (then (from attributes_tree b.attributes-is c.attributes-in-Loop.ensures) (then (from compound_view b.body-is c.compound-in-Loop.ensures) (then (from (optional continuing_view) b.continuing-is c.optional_continuing.ensures) nothing))))

pub statement-returns-in-For : goal.statement-returns-in-For
statement-returns-in-For t c =
    let b = c.in-For in
    seen (ap statement_view b.is ∙ view_for b.attributes b.initializer b.condition b.update b.body) (view_for c.attributes-in-For.new.attributes c.optional_statement.new.node c.optional_node.new.node c.optional_statement-in-For.new.node c.compound-in-For.new.body)
    (of_kind for_loop (λ b f. refl) (then (from attributes_tree b.attributes-is c.attributes-in-For.ensures) (then (from (optional (λ s. statement_tree (box_value s))) b.initializer-is c.optional_statement.ensures) (then (from (optional expression_tree) b.condition-is c.optional_node.ensures) (then (from (optional (λ s. statement_tree (box_value s))) b.update-is c.optional_statement-in-For.ensures) (then (from compound_view b.body-is c.compound-in-For.ensures) nothing))))))

pub statement-returns-in-While : goal.statement-returns-in-While
statement-returns-in-While t c =
    let b = c.in-While in
    seen (ap statement_view b.is ∙ view_while b.attributes b.condition b.body) (view_while c.attributes-in-While.new.attributes c.node-in-While.new.node c.compound-in-While.new.body)
    (of_kind while_loop (λ b f. refl) (then (from attributes_tree b.attributes-is c.attributes-in-While.ensures) (then (from expression_tree b.condition-is c.node-in-While.ensures) (then (from compound_view b.body-is c.compound-in-While.ensures) nothing))))

pub statement-returns-in-Break : goal.statement-returns-in-Break
unfolding out-Statement denote.Hole.Carrier.out
statement-returns-in-Break t c =
    let b = c.in-Break in
    rw b.is (seen (view_break b.attributes) (view_break c.attributes-in-Break.new.attributes)
    (of_kind break (λ b f. refl) (then (from attributes_tree b.attributes-is c.attributes-in-Break.ensures) nothing)))

pub statement-returns-in-Continue : goal.statement-returns-in-Continue
unfolding out-Statement denote.Hole.Carrier.out
statement-returns-in-Continue t c =
    let b = c.in-Continue in
    rw b.is (seen (view_continue b.attributes) (view_continue c.attributes-in-Continue.new.attributes)
    (of_kind continue (λ b f. refl) (then (from attributes_tree b.attributes-is c.attributes-in-Continue.ensures) nothing)))

pub statement-returns-in-Return : goal.statement-returns-in-Return
statement-returns-in-Return t c =
    let b = c.in-Return in
    seen (ap statement_view b.is ∙ view_return b.attributes b.expression) (view_return c.attributes-in-Return.new.attributes c.optional_node-in-Return.new.node)
    (of_kind return (λ b f. refl) (then (from attributes_tree b.attributes-is c.attributes-in-Return.ensures) (then (from (optional expression_tree) b.expression-is c.optional_node-in-Return.ensures) nothing)))

pub statement-returns-in-Discard : goal.statement-returns-in-Discard
unfolding out-Statement denote.Hole.Carrier.out
statement-returns-in-Discard t c =
    let b = c.in-Discard in
    rw b.is (seen (view_discard b.attributes) (view_discard c.attributes-in-Discard.new.attributes)
    (of_kind discard (λ b f. refl) (then (from attributes_tree b.attributes-is c.attributes-in-Discard.ensures) nothing)))

pub statement-returns-in-FunctionCall : goal.statement-returns-in-FunctionCall
statement-returns-in-FunctionCall t c =
    let b = c.in-FunctionCall in
    seen (ap statement_view b.is ∙ view_call_statement b.attributes b.call) (view_call_statement c.attributes-in-FunctionCall.new.attributes c.call.new.call)
    (of_kind call_statement (λ b f. refl) (then (from attributes_tree b.attributes-is c.attributes-in-FunctionCall.ensures) (then (from call_view b.call-is c.call.ensures) nothing)))

pub statement-returns-in-ConstAssert : goal.statement-returns-in-ConstAssert
unfolding out-Statement denote.Hole.Carrier.out
statement-returns-in-ConstAssert t c =
    let b = c.in-ConstAssert in
    rw b.is (seen (view_const_assert b.assertion) (view_const_assert c.assertion.new.assertion)
    (from assert_view b.assertion-is c.assertion.ensures))

pub statement-returns-in-Declaration : goal.statement-returns-in-Declaration
unfolding out-Statement denote.Hole.Carrier.out
statement-returns-in-Declaration t c =
    let b = c.in-Declaration in
    rw b.is (seen (view_local b.declaration) (view_local c.declaration.new.declaration)
    (from declaration_view b.declaration-is c.declaration.ensures))

pub compound-returns : goal.compound-returns
compound-returns t c = seen (view_compound c.args.body.now) (view_compound_of _ _) (of_kind compound (λ b f. refl) (then c.attributes.ensures (then c.statements.ensures nothing)))

pub if_clause-returns : goal.if_clause-returns
if_clause-returns t c = seen (view_if_clause c.args.clause.now) (view_if_clause_of _ _) (of_kind if_clause (λ b f. refl) (then c.node.ensures (then c.compound.ensures nothing)))

pub else_if_clause-returns : goal.else_if_clause-returns
else_if_clause-returns t c = seen (view_else_if c.args.clause.now) (view_else_if_of _ _ _) (of_kind else_if_clause (λ b f. refl) (then c.attributes.ensures (then c.node.ensures (then c.compound.ensures nothing))))

pub clause-returns : goal.clause-returns
clause-returns t c = seen (view_clause c.args.clause.now) (view_clause_of _ _ _) (of_kind switch_clause (λ b f. refl) (then c.attributes.ensures (then c.selectors.ensures (then c.compound.ensures nothing))))

pub optional_else-returns-in-Some : goal.optional_else-returns-in-Some
optional_else-returns-in-Some t c =
    seen (ap (optional else_view) c.in-Some.is) refl
    (of_kind present (λ b f. refl) (then (seen (view_else c.in-Some.clause) (view_else_of _ _) (of_kind else_clause (λ b f. refl) (then c.attributes.ensures (then c.compound.ensures nothing)))) nothing))

pub optional_continuing-returns-in-Some : goal.optional_continuing-returns-in-Some
optional_continuing-returns-in-Some t c =
    seen (ap (optional continuing_view) c.in-Some.is) refl
    (of_kind present (λ b f. refl) (then (seen (view_continuing c.in-Some.continuing) (view_continuing_of _ _ _) (of_kind continuing (λ b f. refl) (then c.attributes.ensures (then c.compound.ensures (then c.optional_break_if.ensures nothing))))) nothing))

pub optional_statement-returns-in-Some : goal.optional_statement-returns-in-Some
optional_statement-returns-in-Some t c =
    let s = c.deref_mut.result.now in
    seen (ap (optional (λ s. statement_tree (box_value s))) c.in-Some.is) refl
    (of_kind present (λ b f. refl) (then (from statement_tree c.deref_mut.ensures.value (of_place statement_view statement_node s c.statement.new.statement c.statement.ensures)) nothing))
