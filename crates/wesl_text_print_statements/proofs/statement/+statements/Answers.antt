use Rattle.std.proofs.Common.{ap, sym, ◌∙◌}
use Rattle.wesl_text_form.specs.Productions.{a_bare_statement, a_clause, a_statement, an_else_if}
use Rattle.wesl_text_print.specs.Printing.{slots_in}
use Rattle.wesl_text_print.proofs.Adding.{after_blank, lawful, none, nothing_behind, one, then, told}
use Rattle.wesl_text_print.proofs.Lists.{all_before, node_slots, none_before, one_more}
use Rattle.wesl_text_print_statements.specs.Bodies.{ended_slots, the_continuing, the_else}
use Rattle.wesl_text_print_statements.specs.Parts.{option_in}
use Rattle.wesl_text_print_statements.proofs.Bodies.{bare, block_printed, body_printed, clause_printed, continuing_printed, else_if_printed, else_printed, for_printed, if_clause_printed, if_printed, loop_printed, opened_printed, return_printed, switch_printed, while_printed}
use Rattle.wesl_text_print_statements.proofs.Rows.{all_is}
use Rattle.wesl_text_print_statements.proofs.SimpleStatements.{assignment_part, call_part, decrement_part, increment_part, local_part}
use Rattle.wesl_tree_syntax.specs.View.{clause_view, continuing_view, else_if_view, else_view, statement_tree}
use Rattle.wesl_text_print_statements.proofs.statement.+statements.Goals as goal
use Rattle.wesl_tree_syntax.proofs.Views.{view_break, view_const_assert, view_continue, view_discard, view_void}

pub print_body-returns : goal.print_body-returns
print_body-returns g t c =
    let l = lawful g.met.S.TokenSink.none g.met.S.TokenSink.more in
    told (body_printed c.args.names.now c.args.body.now) (then l c.open_body.ensures c.close_body.ensures)

pub open_body-returns : goal.open_body-returns
open_body-returns g t c =
    let l = lawful g.met.S.TokenSink.none g.met.S.TokenSink.more in
    told (opened_printed c.args.names.now c.args.body.now) (then l c.print_attributes.ensures (then l (one l c.symbol.ensures) (after_blank l c.indent.ensures (then l c.print_statements.ensures (one l c.outdent.ensures)))))

pub print_statements-loop-statement-init : goal.print_statements-loop-statement-init
print_statements-loop-statement-init g t c =
    let l = lawful g.met.S.TokenSink.none g.met.S.TokenSink.more in
    none_before (node_slots c.args.names.now a_statement statement_tree) l c.deref-statement-items.result.now c.args.out.now

pub print_statements-loop-statement-preserved : goal.print_statements-loop-statement-preserved
print_statements-loop-statement-preserved g t c =
    let l = lawful g.met.S.TokenSink.none g.met.S.TokenSink.more in
    one_more (node_slots c.args.names.now a_statement statement_tree) l c.deref-statement-items.result.now c.loop-statement.statement-index c.statement-item.result c.loop-statement-test.true c.statement-item.is c.loop-statement.invariant
    (after_blank l c.line.ensures (told (sym (nothing_behind _)) c.print_bare_statement.ensures))

pub print_statements-returns : goal.print_statements-returns
print_statements-returns g t c =
    let l = lawful g.met.S.TokenSink.none g.met.S.TokenSink.more in
    told (all_is c.args.names.now statement_tree a_statement c.args.statements.now.items)
    (all_before (node_slots c.args.names.now a_statement statement_tree) l c.deref-statement-items.result.now c.args.statements.now.items c.loop-statement.statement-index c.deref-statement-items.ensures.value c.loop-statement-test.false c.loop-statement.invariant)

pub print_else_ifs-loop-clause-init : goal.print_else_ifs-loop-clause-init
print_else_ifs-loop-clause-init g t c =
    let l = lawful g.met.S.TokenSink.none g.met.S.TokenSink.more in
    none_before (node_slots c.args.names.now an_else_if else_if_view) l c.deref-clause-items.result.now c.args.out.now

pub print_else_ifs-loop-clause-preserved : goal.print_else_ifs-loop-clause-preserved
print_else_ifs-loop-clause-preserved g t c =
    let l = lawful g.met.S.TokenSink.none g.met.S.TokenSink.more in
    one_more (node_slots c.args.names.now an_else_if else_if_view) l c.deref-clause-items.result.now c.loop-clause.clause-index c.clause-item.result c.loop-clause-test.true c.clause-item.is c.loop-clause.invariant
    (after_blank l c.space.ensures c.print_else_if.ensures)

pub print_else_ifs-returns : goal.print_else_ifs-returns
print_else_ifs-returns g t c =
    let l = lawful g.met.S.TokenSink.none g.met.S.TokenSink.more in
    told (all_is c.args.names.now else_if_view an_else_if c.args.clauses.now.items)
    (all_before (node_slots c.args.names.now an_else_if else_if_view) l c.deref-clause-items.result.now c.args.clauses.now.items c.loop-clause.clause-index c.deref-clause-items.ensures.value c.loop-clause-test.false c.loop-clause.invariant)

pub print_each_clause-loop-clause-init : goal.print_each_clause-loop-clause-init
print_each_clause-loop-clause-init g t c =
    let l = lawful g.met.S.TokenSink.none g.met.S.TokenSink.more in
    none_before (node_slots c.args.names.now a_clause clause_view) l c.deref-clause-items.result.now c.args.out.now

pub print_each_clause-loop-clause-preserved : goal.print_each_clause-loop-clause-preserved
print_each_clause-loop-clause-preserved g t c =
    let l = lawful g.met.S.TokenSink.none g.met.S.TokenSink.more in
    one_more (node_slots c.args.names.now a_clause clause_view) l c.deref-clause-items.result.now c.loop-clause.clause-index c.clause-item.result c.loop-clause-test.true c.clause-item.is c.loop-clause.invariant
    (after_blank l c.line.ensures c.print_clause.ensures)

pub print_each_clause-returns : goal.print_each_clause-returns
print_each_clause-returns g t c =
    let l = lawful g.met.S.TokenSink.none g.met.S.TokenSink.more in
    told (all_is c.args.names.now clause_view a_clause c.args.clauses.now.items)
    (all_before (node_slots c.args.names.now a_clause clause_view) l c.deref-clause-items.result.now c.args.clauses.now.items c.loop-clause.clause-index c.deref-clause-items.ensures.value c.loop-clause-test.false c.loop-clause.invariant)

pub print_bare_statement-returns-in-Void : goal.print_bare_statement-returns-in-Void
print_bare_statement-returns-in-Void g t c =
    let l = lawful g.met.S.TokenSink.none g.met.S.TokenSink.more in
    told (ap (slots_in c.args.names.now a_bare_statement) (sym view_void) ∙ ap (bare c.args.names.now) (sym c.in-Void.is))
    (one l c.symbol.ensures)

pub print_bare_statement-returns-in-Compound : goal.print_bare_statement-returns-in-Compound
print_bare_statement-returns-in-Compound g t c =
    told (block_printed c.args.names.now c.in-Compound.body ∙ ap (bare c.args.names.now) (sym c.in-Compound.is))
    c.print_body.ensures

pub print_bare_statement-returns-in-If : goal.print_bare_statement-returns-in-If
print_bare_statement-returns-in-If g t c =
    let l = lawful g.met.S.TokenSink.none g.met.S.TokenSink.more in
    told (if_printed c.args.names.now c.in-If.attributes c.in-If.if_clause c.in-If.else_if_clauses c.in-If.else_clause ∙ ap (bare c.args.names.now) (sym c.in-If.is))
    (then l c.print_attributes.ensures (then l c.print_if_clause.ensures (then l c.print_else_ifs.ensures (then l c.print_optional_else.ensures (none l)))))

pub print_bare_statement-returns-in-Switch : goal.print_bare_statement-returns-in-Switch
print_bare_statement-returns-in-Switch g t c =
    let l = lawful g.met.S.TokenSink.none g.met.S.TokenSink.more in
    told (switch_printed c.args.names.now c.in-Switch.attributes c.in-Switch.expression c.in-Switch.body_attributes c.in-Switch.clauses ∙ ap (bare c.args.names.now) (sym c.in-Switch.is))
    (then l c.print_attributes-in-Switch.ensures (then l c.print_headed.ensures (then l c.print_attributes-in-Switch-2.ensures c.print_clauses.ensures)))

pub print_bare_statement-returns-in-Loop : goal.print_bare_statement-returns-in-Loop
print_bare_statement-returns-in-Loop g t c =
    let l = lawful g.met.S.TokenSink.none g.met.S.TokenSink.more in
    told (loop_printed c.args.names.now c.in-Loop.attributes c.in-Loop.body c.in-Loop.continuing ∙ ap (bare c.args.names.now) (sym c.in-Loop.is))
    (then l c.print_attributes-in-Loop.ensures (then l (one l c.keyword.ensures) (after_blank l c.space.ensures (then l c.open_body.ensures (then l c.print_optional_continuing.ensures c.close_body.ensures)))))

pub print_bare_statement-returns-in-For : goal.print_bare_statement-returns-in-For
print_bare_statement-returns-in-For g t c =
    let l = lawful g.met.S.TokenSink.none g.met.S.TokenSink.more in
    told (for_printed c.args.names.now c.in-For.attributes c.in-For.initializer c.in-For.condition c.in-For.update c.in-For.body ∙ ap (bare c.args.names.now) (sym c.in-For.is))
    (then l c.print_attributes-in-For.ensures (then l (one l c.keyword-in-For.ensures) (after_blank l c.space-in-For.ensures (then l c.print_for_parts.ensures (after_blank l c.space-in-For-2.ensures (then l c.print_body-in-For.ensures (none l)))))))

pub print_bare_statement-returns-in-While : goal.print_bare_statement-returns-in-While
print_bare_statement-returns-in-While g t c =
    let l = lawful g.met.S.TokenSink.none g.met.S.TokenSink.more in
    told (while_printed c.args.names.now c.in-While.attributes c.in-While.condition c.in-While.body ∙ ap (bare c.args.names.now) (sym c.in-While.is))
    (then l c.print_attributes-in-While.ensures (then l c.print_headed-in-While.ensures (then l c.print_body-in-While.ensures (none l))))

pub print_bare_statement-returns-in-Break : goal.print_bare_statement-returns-in-Break
print_bare_statement-returns-in-Break g t c =
    told (ap (slots_in c.args.names.now a_bare_statement) (sym (view_break c.in-Break.attributes)) ∙ ap (bare c.args.names.now) (sym c.in-Break.is))
    c.print_jump.ensures

pub print_bare_statement-returns-in-Continue : goal.print_bare_statement-returns-in-Continue
print_bare_statement-returns-in-Continue g t c =
    told (ap (slots_in c.args.names.now a_bare_statement) (sym (view_continue c.in-Continue.attributes)) ∙ ap (bare c.args.names.now) (sym c.in-Continue.is))
    c.print_jump-in-Continue.ensures

pub print_bare_statement-returns-in-Discard : goal.print_bare_statement-returns-in-Discard
print_bare_statement-returns-in-Discard g t c =
    told (ap (slots_in c.args.names.now a_bare_statement) (sym (view_discard c.in-Discard.attributes)) ∙ ap (bare c.args.names.now) (sym c.in-Discard.is))
    c.print_jump-in-Discard.ensures

pub print_bare_statement-returns-in-Return : goal.print_bare_statement-returns-in-Return
print_bare_statement-returns-in-Return g t c =
    let l = lawful g.met.S.TokenSink.none g.met.S.TokenSink.more in
    told (return_printed c.args.names.now c.in-Return.attributes c.in-Return.expression ∙ ap (bare c.args.names.now) (sym c.in-Return.is))
    (then l c.print_attributes-in-Return.ensures (then l (one l c.keyword-in-Return.ensures) (then l c.print_optional_expression.ensures (one l c.symbol-in-Return.ensures))))

pub print_bare_statement-returns-in-ConstAssert : goal.print_bare_statement-returns-in-ConstAssert
print_bare_statement-returns-in-ConstAssert g t c =
    told (ap (slots_in c.args.names.now a_bare_statement) (sym (view_const_assert c.in-ConstAssert.assertion)) ∙ ap (bare c.args.names.now) (sym c.in-ConstAssert.is))
    c.print_assertion.ensures.statement

pub print_bare_statement-returns-in-Assignment : goal.print_bare_statement-returns-in-Assignment
print_bare_statement-returns-in-Assignment g t c = told (ap (ended_slots c.args.names.now) c.in-Assignment.is ∙ (assignment_part c.args.names.now c.in-Assignment._attributes c.in-Assignment._operator c.in-Assignment._lhs c.in-Assignment._rhs).1 ∙ ap (bare c.args.names.now) (sym c.in-Assignment.is)) c.print_ended.ensures

pub print_bare_statement-returns-in-Increment : goal.print_bare_statement-returns-in-Increment
print_bare_statement-returns-in-Increment g t c = told (ap (ended_slots c.args.names.now) c.in-Increment.is ∙ (increment_part c.args.names.now c.in-Increment._attributes c.in-Increment._expression).1 ∙ ap (bare c.args.names.now) (sym c.in-Increment.is)) c.print_ended-in-Increment.ensures

pub print_bare_statement-returns-in-Decrement : goal.print_bare_statement-returns-in-Decrement
print_bare_statement-returns-in-Decrement g t c = told (ap (ended_slots c.args.names.now) c.in-Decrement.is ∙ (decrement_part c.args.names.now c.in-Decrement._attributes c.in-Decrement._expression).1 ∙ ap (bare c.args.names.now) (sym c.in-Decrement.is)) c.print_ended-in-Decrement.ensures

pub print_bare_statement-returns-in-FunctionCall : goal.print_bare_statement-returns-in-FunctionCall
print_bare_statement-returns-in-FunctionCall g t c = told (ap (ended_slots c.args.names.now) c.in-FunctionCall.is ∙ (call_part c.args.names.now c.in-FunctionCall._attributes c.in-FunctionCall._call).1 ∙ ap (bare c.args.names.now) (sym c.in-FunctionCall.is)) c.print_ended-in-FunctionCall.ensures

pub print_bare_statement-returns-in-Declaration : goal.print_bare_statement-returns-in-Declaration
print_bare_statement-returns-in-Declaration g t c = told (ap (ended_slots c.args.names.now) c.in-Declaration.is ∙ (local_part c.args.names.now c.in-Declaration._declaration).1 ∙ ap (bare c.args.names.now) (sym c.in-Declaration.is)) c.print_ended-in-Declaration.ensures

pub print_if_clause-returns : goal.print_if_clause-returns
print_if_clause-returns g t c =
    let l = lawful g.met.S.TokenSink.none g.met.S.TokenSink.more in
    told (if_clause_printed c.args.names.now c.args.clause.now)
    (then l c.print_headed.ensures (then l c.print_body.ensures (none l)))

pub print_else_if-returns : goal.print_else_if-returns
print_else_if-returns g t c =
    let l = lawful g.met.S.TokenSink.none g.met.S.TokenSink.more in
    told (else_if_printed c.args.names.now c.args.clause.now)
    (then l c.print_attributes.ensures (then l (one l c.keyword.ensures) (after_blank l c.space.ensures (then l c.print_headed.ensures (then l c.print_body.ensures (none l))))))

pub print_optional_else-returns-in-Some : goal.print_optional_else-returns-in-Some
print_optional_else-returns-in-Some g t c =
    let l = lawful g.met.S.TokenSink.none g.met.S.TokenSink.more in
    told (ap (option_in c.args.names.now the_else else_view) (sym c.in-Some.is)) (after_blank l c.space.ensures (then l c.print_else.ensures (none l)))

pub print_else-returns : goal.print_else-returns
print_else-returns g t c =
    let l = lawful g.met.S.TokenSink.none g.met.S.TokenSink.more in
    told (else_printed c.args.names.now c.args.otherwise.now)
    (then l c.print_attributes.ensures (then l (one l c.keyword.ensures) (after_blank l c.space.ensures (then l c.print_body.ensures (none l)))))

pub print_clauses-returns : goal.print_clauses-returns
print_clauses-returns g t c =
    let l = lawful g.met.S.TokenSink.none g.met.S.TokenSink.more in
    let steps = then l (one l c.symbol.ensures) (after_blank l c.indent.ensures (then l c.print_each_clause.ensures (after_blank l c.outdent.ensures c.close_body.ensures))) in
    steps

pub print_clause-returns : goal.print_clause-returns
print_clause-returns g t c =
    let l = lawful g.met.S.TokenSink.none g.met.S.TokenSink.more in
    told (clause_printed c.args.names.now c.args.clause.now)
    (then l c.print_attributes.ensures (then l c.print_selectors.ensures (then l (one l c.may.ensures) (after_blank l c.space.ensures (then l c.print_body.ensures (none l))))))

pub print_optional_continuing-returns-in-Some : goal.print_optional_continuing-returns-in-Some
print_optional_continuing-returns-in-Some g t c =
    let l = lawful g.met.S.TokenSink.none g.met.S.TokenSink.more in
    told (ap (option_in c.args.names.now the_continuing continuing_view) (sym c.in-Some.is)) (after_blank l c.indent.ensures (after_blank l c.line.ensures (then l c.print_continuing.ensures (one l c.outdent.ensures))))

pub print_continuing-returns : goal.print_continuing-returns
print_continuing-returns g t c =
    let l = lawful g.met.S.TokenSink.none g.met.S.TokenSink.more in
    told (continuing_printed c.args.names.now c.args.continuing.now)
    (then l c.print_attributes.ensures (then l (one l c.keyword.ensures) (after_blank l c.space.ensures (then l c.open_body.ensures (then l c.print_optional_break_if.ensures c.close_body.ensures)))))
