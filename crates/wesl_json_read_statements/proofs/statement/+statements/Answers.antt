use Rattle.std.proofs.Common.{arith, codes, refl, sym, ◌<◌, ◌≤◌, ◌∙◌}
use Rattle.serde_json.specs.Data.{array, depth, items_depth}
use Rattle.wesl_json_form.specs.Schema.{a_clause, a_statement, an_elif}
use Rattle.wesl_json_form.specs.View.{borrowed_view, items_view}
use Rattle.wesl_tree_syntax.specs.Tree.{clauses, list, statement_node, statements}
use Rattle.wesl_tree_syntax.specs.View.{clause_view, else_if_view, statement_tree, statement_view}
use Rattle.wesl_json_form.proofs.Depths.{array-depth, get-depth, item-depth}
use Rattle.wesl_json_read.proofs.Noting.{all_items, inner_next, is_clear, many_next, may_lacks, may_next, may_part, needed_lacks, needed_part, needs_next, no_items, no_list, no_more, of_bare, of_node, of_word, one_item, seen, seen_worded, stopped}
use Rattle.wesl_json_read.proofs.Worded.{node-place, node-reads, node-span}
use Rattle.wesl_json_read_statements.specs.Forms.{statement_head, statement_row, statement_text}
use Rattle.wesl_json_read_statements.proofs.Boxes.{in_box}
use Rattle.wesl_json_read_statements.proofs.Named.{statement-node}
use Rattle.wesl_json_read_statements.proofs.Views.{view-block, view-if}
use Rattle.wesl_json_read_statements.proofs.statement.+statements.Goals as goal
use Rattle.wesl_json_read_statements.proofs.statement.+statements.Goals.{clauses-else-not-is_stopped, clauses-then-not-is_stopped, else_ifs-else-not-is_stopped, else_ifs-then-not-is_stopped, statements-else-not-is_stopped, statements-then-not-is_stopped}
use Rattle.wesl_tree_syntax.proofs.Views.{view_clause_of, view_compound_of, view_continuing_of, view_else_if_of, view_else_of, view_for, view_loop, view_switch, view_while}

pub body-statements-statements-requires : goal.body-statements-statements-requires
body-statements-statements-requires t c =
    let low : depth (borrowed_view c.in-Some.member.now) < depth (borrowed_view c.args.value.now) = get-depth (codes "body") _ _ c.in-Some.ensures.there.found in
    (omega arith, tt)

pub statements-statement-statement-requires : goal.statements-statement-statement-requires
statements-statement-statement-requires t c =
    let vs = c.in-Some.items.now in
    let below : depth (borrowed_view c.index-items-index.result) ≤ items_depth (items_view vs) = item-depth vs c.loop-index.index c.index-items-index.result c.loop-index-test.true c.index-items-index.is in
    let deep : items_depth (items_view vs) < depth (array (items_view vs)) = array-depth (array (items_view vs)) (items_view vs) refl in
    let low : depth (array (items_view vs)) < depth (borrowed_view c.args.value.now) = get-depth (codes "stmts") (borrowed_view c.args.value.now) (array (items_view vs)) c.in-Some.ensures.there.found in
    (omega arith, tt)

pub optional_statement-statement-statement-requires : goal.optional_statement-statement-statement-requires
optional_statement-statement-statement-requires t c =
    let low : depth (borrowed_view c.in-Some.member.now) < depth (borrowed_view c.args.value.now) = get-depth c.args.key.now _ _ c.in-Some.ensures.there.found in
    (omega arith, tt)

pub else_ifs-else_if-clause-requires : goal.else_ifs-else_if-clause-requires
else_ifs-else_if-clause-requires t c =
    let vs = c.in-Some.items.now in
    let below : depth (borrowed_view c.index-items-index.result) ≤ items_depth (items_view vs) = item-depth vs c.loop-index.index c.index-items-index.result c.loop-index-test.true c.index-items-index.is in
    let deep : items_depth (items_view vs) < depth (array (items_view vs)) = array-depth (array (items_view vs)) (items_view vs) refl in
    let low : depth (array (items_view vs)) < depth (borrowed_view c.args.value.now) = get-depth (codes "elifs") (borrowed_view c.args.value.now) (array (items_view vs)) c.in-Some.ensures.there.found in
    (omega arith, tt)

pub else_clause-body-body-requires : goal.else_clause-body-body-requires
else_clause-body-body-requires t c =
    let low : depth (borrowed_view c.in-Some.member.now) < depth (borrowed_view c.args.value.now) = get-depth (codes "else") _ _ c.in-Some.ensures.there.found in
    (omega arith, tt)

pub clauses-clause-clause-requires : goal.clauses-clause-clause-requires
clauses-clause-clause-requires t c =
    let vs = c.in-Some.items.now in
    let below : depth (borrowed_view c.index-items-index.result) ≤ items_depth (items_view vs) = item-depth vs c.loop-index.index c.index-items-index.result c.loop-index-test.true c.index-items-index.is in
    let deep : items_depth (items_view vs) < depth (array (items_view vs)) = array-depth (array (items_view vs)) (items_view vs) refl in
    let low : depth (array (items_view vs)) < depth (borrowed_view c.args.value.now) = get-depth (codes "clauses") (borrowed_view c.args.value.now) (array (items_view vs)) c.in-Some.ensures.there.found in
    (omega arith, tt)

pub continuing-body-body-requires : goal.continuing-body-body-requires
continuing-body-body-requires t c =
    let low : depth (borrowed_view c.in-Some.member.now) < depth (borrowed_view c.args.value.now) = get-depth (codes "continuing") _ _ c.in-Some.ensures.there.found in
    (omega arith, tt)

pub statement-returns : goal.statement-returns
statement-returns t c =
    let d = borrowed_view c.args.value.now in
    let w = c.word_of-word.result in
    of_node
    (λ spans a b word span r. node-reads spans a_statement statement_node (statement_text w) (statement_head w) (statement_row w) d word (statement-node spans w d word) _ _ (statement_view c.worded_statement.result) a b span r)
    (λ spans x word bad. node-span spans a_statement statement_node (statement_text w) (statement_head w) (statement_row w) d word (statement-node spans w d word) x bad)
    (λ spans x word bad. node-place spans a_statement statement_node (statement_text w) (statement_head w) (statement_row w) d word (statement-node spans w d word) x bad)
    c.word_of-word.ensures c.span.ensures c.worded_statement.ensures

pub worded_statement-returns-in-Block : goal.worded_statement-returns-in-Block
worded_statement-returns-in-Block t c = rw c.in-Block.is c.block.ensures

pub worded_statement-returns-in-Assign : goal.worded_statement-returns-in-Assign
worded_statement-returns-in-Assign t c = rw c.in-Assign.is c.assignment.ensures

pub worded_statement-returns-in-Increment : goal.worded_statement-returns-in-Increment
worded_statement-returns-in-Increment t c = rw c.in-Increment.is c.step.ensures

pub worded_statement-returns-in-Decrement : goal.worded_statement-returns-in-Decrement
worded_statement-returns-in-Decrement t c = rw c.in-Decrement.is c.step-in-Decrement.ensures

pub worded_statement-returns-in-If : goal.worded_statement-returns-in-If
worded_statement-returns-in-If t c = rw c.in-If.is c.if_statement.ensures

pub worded_statement-returns-in-Switch : goal.worded_statement-returns-in-Switch
worded_statement-returns-in-Switch t c = rw c.in-Switch.is c.switch_statement.ensures

pub worded_statement-returns-in-Loop : goal.worded_statement-returns-in-Loop
worded_statement-returns-in-Loop t c = rw c.in-Loop.is c.loop_statement.ensures

pub worded_statement-returns-in-For : goal.worded_statement-returns-in-For
worded_statement-returns-in-For t c = rw c.in-For.is c.for_statement.ensures

pub worded_statement-returns-in-While : goal.worded_statement-returns-in-While
worded_statement-returns-in-While t c = rw c.in-While.is c.while_statement.ensures

pub worded_statement-returns-in-Break : goal.worded_statement-returns-in-Break
worded_statement-returns-in-Break t c = rw c.in-Break.is c.jump.ensures

pub worded_statement-returns-in-Continue : goal.worded_statement-returns-in-Continue
worded_statement-returns-in-Continue t c = rw c.in-Continue.is c.jump-in-Continue.ensures

pub worded_statement-returns-in-Discard : goal.worded_statement-returns-in-Discard
worded_statement-returns-in-Discard t c = rw c.in-Discard.is c.jump-in-Discard.ensures

pub worded_statement-returns-in-Return : goal.worded_statement-returns-in-Return
worded_statement-returns-in-Return t c = rw c.in-Return.is c.return_statement.ensures

pub worded_statement-returns-in-Call : goal.worded_statement-returns-in-Call
worded_statement-returns-in-Call t c = rw c.in-Call.is c.call_statement.ensures

pub worded_statement-returns-in-Declared : goal.worded_statement-returns-in-Declared
worded_statement-returns-in-Declared t c = rw c.in-Declared.is (seen_worded (λ h. sym c.statement_of.ensures) c.read_declared.ensures)

pub block-returns : goal.block-returns
block-returns t c = seen_worded (λ h. sym (view-block _ _)) (of_word _ refl c.keys.ensures (inner_next (many_next refl c.attributes.ensures (many_next refl c.statements.ensures no_more)) no_more))

pub if_statement-returns : goal.if_statement-returns
if_statement-returns t c = seen_worded (λ h. sym (view-if _ _ _ _ _)) (of_word _ refl c.keys.ensures (many_next refl c.attributes.ensures (inner_next (needs_next refl c.expression_at.ensures (needs_next refl c.body.ensures no_more)) (many_next refl c.else_ifs.ensures (may_next refl c.else_clause.ensures no_more)))))

pub switch_statement-returns : goal.switch_statement-returns
switch_statement-returns t c = seen_worded (λ h. sym (view_switch _ _ _ _)) (of_word _ refl c.keys.ensures (many_next refl c.attributes.ensures (needs_next refl c.expression_at.ensures (many_next refl c.attributes-2.ensures (many_next refl c.clauses.ensures no_more)))))

pub loop_statement-returns : goal.loop_statement-returns
loop_statement-returns t c = seen_worded (λ h. sym (view_loop _ _ _)) (of_word _ refl c.keys.ensures (many_next refl c.attributes.ensures (needs_next refl c.body.ensures (may_next refl c.continuing.ensures no_more))))

pub for_statement-returns : goal.for_statement-returns
for_statement-returns t c = seen_worded (λ h. sym (view_for _ _ _ _ _)) (of_word _ refl c.keys.ensures (many_next refl c.attributes.ensures (may_next refl c.optional_statement.ensures (may_next refl c.optional_expression.ensures (may_next refl c.optional_statement-2.ensures (needs_next refl c.body.ensures no_more))))))

pub while_statement-returns : goal.while_statement-returns
while_statement-returns t c = seen_worded (λ h. sym (view_while _ _ _)) (of_word _ refl c.keys.ensures (many_next refl c.attributes.ensures (needs_next refl c.expression_at.ensures (needs_next refl c.body.ensures no_more))))

pub body-returns : goal.body-returns
body-returns t c = needed_part c.in-Some.ensures.there c.in-Some.ensures.same (seen (sym (view_compound_of _ _)) (of_bare refl refl refl c.keys.ensures (many_next refl c.attributes-attributes.ensures (many_next refl c.statements-statements.ensures no_more)))) c.within.ensures

pub body-returns-in_default : goal.body-returns-in_default
body-returns-in_default t c = needed_lacks c.in_default.ensures.lacks

pub optional_statement-returns : goal.optional_statement-returns
optional_statement-returns t c = in_box c.statement-statement.result c.boxed.result (may_part c.in-Some.ensures.there c.statement-statement.ensures c.within.ensures) c.boxed.ensures.same c.boxed.ensures.refused

pub optional_statement-returns-in_default : goal.optional_statement-returns-in_default
optional_statement-returns-in_default t c = may_lacks c.in_default.ensures.lacks

pub else_if-returns : goal.else_if-returns
else_if-returns t c = seen (sym (view_else_if_of _ _ _)) (of_bare refl refl refl c.keys.ensures (many_next refl c.attributes.ensures (needs_next refl c.expression_at.ensures (needs_next refl c.body.ensures no_more))))

pub else_clause-returns : goal.else_clause-returns
else_clause-returns t c = may_part c.in-Some.ensures.there (seen (sym (view_else_of _ _)) (of_bare refl refl refl c.keys.ensures (many_next refl c.attributes-attributes.ensures (needs_next refl c.body-body.ensures no_more)))) c.within.ensures

pub else_clause-returns-in_default : goal.else_clause-returns-in_default
else_clause-returns-in_default t c = may_lacks c.in_default.ensures.lacks

pub clause-returns : goal.clause-returns
clause-returns t c = seen (sym (view_clause_of _ _ _)) (of_bare refl refl refl c.keys.ensures (many_next refl c.attributes.ensures (many_next refl c.cases.ensures (needs_next refl c.body.ensures no_more))))

pub continuing-returns : goal.continuing-returns
continuing-returns t c = may_part c.in-Some.ensures.there (seen (sym (view_continuing_of _ _ _)) (of_bare refl refl refl c.keys.ensures (many_next refl c.attributes-attributes.ensures (needs_next refl c.body-body.ensures (may_next refl c.break_if-break_if.ensures no_more))))) c.within.ensures

pub continuing-returns-in_default : goal.continuing-returns-in_default
continuing-returns-in_default t c = may_lacks c.in_default.ensures.lacks

pub statements-loop-index-init : goal.statements-loop-index-init
statements-loop-index-init t c = no_items statement_tree statements a_statement c.in-Some.ensures.same c.room-statements.ensures.empty c.room-statements.ensures.noted

pub statements-loop-index-preserved : goal.statements-loop-index-preserved
statements-loop-index-preserved t c =
    elim c.if-not-is_stopped.branch [
      | statements-then-not-is_stopped w ↦ rw (w.reader-is, w.statements-is) (one_item statement_tree statements a_statement c.loop-index-test.true c.index-items-index.is c.loop-index.invariant (is_clear _ (sym c.is_stopped.ensures ∙ w.if-not-is_stopped.true)) w.statement-statement.ensures w.put.ensures.put w.put.ensures.noted)
      | statements-else-not-is_stopped w ↦ rw (w.reader-is, w.statements-is) (stopped statement_tree statements a_statement (sym c.is_stopped.ensures ∙ w.if-not-is_stopped.false) c.loop-index.invariant)
    ]

pub statements-returns : goal.statements-returns
statements-returns t c = all_items statement_tree statements a_statement refl c.in-Some.ensures.there c.loop-index-test.false c.loop-index.invariant c.within.ensures

pub statements-returns-in_default : goal.statements-returns-in_default
statements-returns-in_default t c = no_list statement_tree statements a_statement c.new.ensures.items c.in_default.ensures.lacks

pub else_ifs-loop-index-init : goal.else_ifs-loop-index-init
else_ifs-loop-index-init t c = no_items else_if_view list an_elif c.in-Some.ensures.same c.room-clauses.ensures.empty c.room-clauses.ensures.noted

pub else_ifs-loop-index-preserved : goal.else_ifs-loop-index-preserved
else_ifs-loop-index-preserved t c =
    elim c.if-not-is_stopped.branch [
      | else_ifs-then-not-is_stopped w ↦ rw (w.reader-is, w.clauses-is) (one_item else_if_view list an_elif c.loop-index-test.true c.index-items-index.is c.loop-index.invariant (is_clear _ (sym c.is_stopped.ensures ∙ w.if-not-is_stopped.true)) w.else_if-clause.ensures w.put.ensures.put w.put.ensures.noted)
      | else_ifs-else-not-is_stopped w ↦ rw (w.reader-is, w.clauses-is) (stopped else_if_view list an_elif (sym c.is_stopped.ensures ∙ w.if-not-is_stopped.false) c.loop-index.invariant)
    ]

pub else_ifs-returns : goal.else_ifs-returns
else_ifs-returns t c = all_items else_if_view list an_elif refl c.in-Some.ensures.there c.loop-index-test.false c.loop-index.invariant c.within.ensures

pub else_ifs-returns-in_default : goal.else_ifs-returns-in_default
else_ifs-returns-in_default t c = no_list else_if_view list an_elif c.new.ensures.items c.in_default.ensures.lacks

pub clauses-loop-index-init : goal.clauses-loop-index-init
clauses-loop-index-init t c = no_items clause_view clauses a_clause c.in-Some.ensures.same c.room-clauses.ensures.empty c.room-clauses.ensures.noted

pub clauses-loop-index-preserved : goal.clauses-loop-index-preserved
clauses-loop-index-preserved t c =
    elim c.if-not-is_stopped.branch [
      | clauses-then-not-is_stopped w ↦ rw (w.reader-is, w.clauses-is) (one_item clause_view clauses a_clause c.loop-index-test.true c.index-items-index.is c.loop-index.invariant (is_clear _ (sym c.is_stopped.ensures ∙ w.if-not-is_stopped.true)) w.clause-clause.ensures w.put.ensures.put w.put.ensures.noted)
      | clauses-else-not-is_stopped w ↦ rw (w.reader-is, w.clauses-is) (stopped clause_view clauses a_clause (sym c.is_stopped.ensures ∙ w.if-not-is_stopped.false) c.loop-index.invariant)
    ]

pub clauses-returns : goal.clauses-returns
clauses-returns t c = all_items clause_view clauses a_clause refl c.in-Some.ensures.there c.loop-index-test.false c.loop-index.invariant c.within.ensures

pub clauses-returns-in_default : goal.clauses-returns-in_default
clauses-returns-in_default t c = no_list clause_view clauses a_clause c.new.ensures.items c.in_default.ensures.lacks
