use Rattle.std.proofs.Common.{ap, refl, ◌∙◌}
use Rattle.std.specs.Box.{box_value}
use Rattle.wesl_tree_syntax.specs.Tree.{break, call_statement, clauses, compound, compound_statement, continue, continuing, decrement, discard, else_clause, else_if_clause, for_loop, if_clause, if_statement, increment, list, loop, return, statement_node, statements, switch, switch_clause, while_loop}
use Rattle.wesl_tree_syntax.specs.View.{clause_view, else_if_view, optional, statement_tree, statement_view}
use Rattle.wesl_tree_copies.proofs.Listed.{all_copied, none_yet, one_more}
use Rattle.wesl_tree_copies.proofs.Parts.{lent_statement, nothing, of_assignment, of_kind, of_place, optional_box, seen, then}
use Rattle.wesl_tree_copies.proofs.Views.{view_assignment}
use Rattle.wesl_tree_copies.proofs.copying.Copying.+statements.Goals as goal
use Rattle.wesl_tree_syntax.proofs.Views.{view_block, view_break, view_call_statement, view_clause, view_clause_of, view_compound, view_compound_of, view_const_assert, view_continue, view_continuing, view_continuing_of, view_decrement, view_discard, view_else, view_else_if, view_else_if_of, view_else_of, view_for, view_if, view_if_clause, view_if_clause_of, view_increment, view_local, view_loop, view_return, view_switch, view_while}

pub statements-loop-node-init : goal.statements-loop-node-init
statements-loop-node-init t c = none_yet statement_tree statement_tree _ _ _ _ c.list-copies.ensures.empty c.list-copies.ensures.noted

pub statements-loop-node-preserved : goal.statements-loop-node-preserved
statements-loop-node-preserved t c =
    one_more statement_tree statement_tree c.loop-node-test.true c.node-item.is c.loop-node.invariant (of_place statement_view statement_node c.node-item.result c.statement.result c.statement.ensures)
    c.push.ensures.noted c.push.ensures.pushed

pub statements-returns : goal.statements-returns
statements-returns t c = all_copied statement_tree statement_tree statements c.args.nodes.now c.loop-node.copies c.loop-node.invariant c.deref-node-items.ensures.value c.loop-node-test.false

pub else_if_clauses-loop-clause-init : goal.else_if_clauses-loop-clause-init
else_if_clauses-loop-clause-init t c = none_yet else_if_view else_if_view _ _ _ _ c.list-copies.ensures.empty c.list-copies.ensures.noted

pub else_if_clauses-loop-clause-preserved : goal.else_if_clauses-loop-clause-preserved
else_if_clauses-loop-clause-preserved t c = one_more else_if_view else_if_view c.loop-clause-test.true c.clause-item.is c.loop-clause.invariant c.else_if_clause-copy.ensures c.push.ensures.noted c.push.ensures.pushed

pub else_if_clauses-returns : goal.else_if_clauses-returns
else_if_clauses-returns t c = all_copied else_if_view else_if_view list c.args.all.now c.loop-clause.copies c.loop-clause.invariant c.deref-clause-items.ensures.value c.loop-clause-test.false

pub clauses-loop-clause-init : goal.clauses-loop-clause-init
clauses-loop-clause-init t c = none_yet clause_view clause_view _ _ _ _ c.list-copies.ensures.empty c.list-copies.ensures.noted

pub clauses-loop-clause-preserved : goal.clauses-loop-clause-preserved
clauses-loop-clause-preserved t c = one_more clause_view clause_view c.loop-clause-test.true c.clause-item.is c.loop-clause.invariant c.clause-copy.ensures c.push.ensures.noted c.push.ensures.pushed

pub clauses-returns : goal.clauses-returns
clauses-returns t c = all_copied clause_view clause_view clauses c.args.all.now c.loop-clause.copies c.loop-clause.invariant c.deref-clause-items.ensures.value c.loop-clause-test.false

pub statement-returns-in-Compound : goal.statement-returns-in-Compound
statement-returns-in-Compound t c = seen (ap statement_view c.in-Compound.is ∙ view_block _) (view_block _) (of_kind compound_statement (then c.compound.ensures nothing))

pub statement-returns-in-Assignment : goal.statement-returns-in-Assignment
statement-returns-in-Assignment t c = seen (ap statement_view c.in-Assignment.is ∙ view_assignment _ _ _ _) (view_assignment _ _ _ _) (of_assignment c.in-Assignment.operator (then c.attributes.ensures (then c.node.ensures (then c.node-in-Assignment.ensures nothing))))

pub statement-returns-in-Increment : goal.statement-returns-in-Increment
statement-returns-in-Increment t c = seen (ap statement_view c.in-Increment.is ∙ view_increment _ _) (view_increment _ _) (of_kind increment (then c.attributes-in-Increment.ensures (then c.node-in-Increment.ensures nothing)))

pub statement-returns-in-Decrement : goal.statement-returns-in-Decrement
statement-returns-in-Decrement t c = seen (ap statement_view c.in-Decrement.is ∙ view_decrement _ _) (view_decrement _ _) (of_kind decrement (then c.attributes-in-Decrement.ensures (then c.node-in-Decrement.ensures nothing)))

pub statement-returns-in-If : goal.statement-returns-in-If
statement-returns-in-If t c = seen (ap statement_view c.in-If.is ∙ view_if _ _ _ _) (view_if _ _ _ _) (of_kind if_statement (then c.attributes-in-If.ensures (then c.if_clause.ensures (then c.else_if_clauses.ensures (then c.optional_else_clause.ensures nothing)))))

pub statement-returns-in-Switch : goal.statement-returns-in-Switch
statement-returns-in-Switch t c = seen (ap statement_view c.in-Switch.is ∙ view_switch _ _ _ _) (view_switch _ _ _ _) (of_kind switch (then c.attributes-in-Switch.ensures (then c.node-in-Switch.ensures (then c.attributes-in-Switch-2.ensures (then c.clauses.ensures nothing)))))

pub statement-returns-in-Loop : goal.statement-returns-in-Loop
statement-returns-in-Loop t c = seen (ap statement_view c.in-Loop.is ∙ view_loop _ _ _) (view_loop _ _ _) (of_kind loop (then c.attributes-in-Loop.ensures (then c.compound-in-Loop.ensures (then c.optional_continuing.ensures nothing))))

pub statement-returns-in-For : goal.statement-returns-in-For
statement-returns-in-For t c = seen (ap statement_view c.in-For.is ∙ view_for _ _ _ _ _) (view_for _ _ _ _ _) (of_kind for_loop (then c.attributes-in-For.ensures (then c.optional_statement.ensures (then c.optional_node.ensures (then c.optional_statement-in-For.ensures (then c.compound-in-For.ensures nothing))))))

pub statement-returns-in-While : goal.statement-returns-in-While
statement-returns-in-While t c = seen (ap statement_view c.in-While.is ∙ view_while _ _ _) (view_while _ _ _) (of_kind while_loop (then c.attributes-in-While.ensures (then c.node-in-While.ensures (then c.compound-in-While.ensures nothing))))

pub statement-returns-in-Break : goal.statement-returns-in-Break
statement-returns-in-Break t c = seen (ap statement_view c.in-Break.is ∙ view_break _) (view_break _) (of_kind break (then c.attributes-in-Break.ensures nothing))

pub statement-returns-in-Continue : goal.statement-returns-in-Continue
statement-returns-in-Continue t c = seen (ap statement_view c.in-Continue.is ∙ view_continue _) (view_continue _) (of_kind continue (then c.attributes-in-Continue.ensures nothing))

pub statement-returns-in-Return : goal.statement-returns-in-Return
statement-returns-in-Return t c = seen (ap statement_view c.in-Return.is ∙ view_return _ _) (view_return _ _) (of_kind return (then c.attributes-in-Return.ensures (then c.optional_node-in-Return.ensures nothing)))

pub statement-returns-in-Discard : goal.statement-returns-in-Discard
statement-returns-in-Discard t c = seen (ap statement_view c.in-Discard.is ∙ view_discard _) (view_discard _) (of_kind discard (then c.attributes-in-Discard.ensures nothing))

pub statement-returns-in-FunctionCall : goal.statement-returns-in-FunctionCall
statement-returns-in-FunctionCall t c = seen (ap statement_view c.in-FunctionCall.is ∙ view_call_statement _ _) (view_call_statement _ _) (of_kind call_statement (then c.attributes-in-FunctionCall.ensures (then c.call.ensures nothing)))

pub statement-returns-in-ConstAssert : goal.statement-returns-in-ConstAssert
statement-returns-in-ConstAssert t c = seen (ap statement_view c.in-ConstAssert.is ∙ view_const_assert _) (view_const_assert _) c.assertion.ensures

pub statement-returns-in-Declaration : goal.statement-returns-in-Declaration
statement-returns-in-Declaration t c = seen (ap statement_view c.in-Declaration.is ∙ view_local _) (view_local _) c.declaration.ensures

pub compound-returns : goal.compound-returns
compound-returns t c = seen (view_compound c.args.body.now) (view_compound_of _ _) (of_kind compound (then c.attributes.ensures (then c.statements.ensures nothing)))

pub if_clause-returns : goal.if_clause-returns
if_clause-returns t c = seen (view_if_clause c.args.clause.now) (view_if_clause_of _ _) (of_kind if_clause (then c.node.ensures (then c.compound.ensures nothing)))

pub else_if_clause-returns : goal.else_if_clause-returns
else_if_clause-returns t c = seen (view_else_if c.args.clause.now) (view_else_if_of _ _ _) (of_kind else_if_clause (then c.attributes.ensures (then c.node.ensures (then c.compound.ensures nothing))))

pub else_clause-returns : goal.else_clause-returns
else_clause-returns t c = seen (view_else c.args.clause.now) (view_else_of _ _) (of_kind else_clause (then c.attributes.ensures (then c.compound.ensures nothing)))

pub clause-returns : goal.clause-returns
clause-returns t c = seen (view_clause c.args.clause.now) (view_clause_of _ _ _) (of_kind switch_clause (then c.attributes.ensures (then c.selectors.ensures (then c.compound.ensures nothing))))

pub continuing-returns : goal.continuing-returns
continuing-returns t c = seen (view_continuing c.args.continuing.now) (view_continuing_of _ _ _) (of_kind continuing (then c.attributes.ensures (then c.compound.ensures (then c.optional_break_if.ensures nothing))))

pub optional_statement-returns-in-Some : goal.optional_statement-returns-in-Some
optional_statement-returns-in-Some t c =
    seen (ap (optional (λ s. statement_tree (box_value s))) c.in-Some.is) refl
    (optional_box statement_tree c.in-Some.node _ _ c.statement.new.self _ _ _ c.new.ensures.ok c.made.ensures.given c.made.ensures.same c.made.ensures.noted
    (lent_statement c.in-Some.node c.deref.result.now c.deref-in-Some.result.now c.statement.result _ _ c.deref.ensures c.deref-in-Some.ensures c.statement.ensures))
