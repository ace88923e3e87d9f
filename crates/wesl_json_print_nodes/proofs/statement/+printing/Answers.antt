use Rattle.wesl_json_words.specs.Values.{statement_at}
use Rattle.std.proofs.Common.{◌≡◌}
use Rattle.std.proofs.Common.{codes, refl, rules, sym}
use Rattle.std.proofs.lemmas.Grind.{common_steps}
use Rattle.std.specs.Box.{box_value}
use Rattle.wesl_tree_syntax.specs.Tree.{statement_node}
use Rattle.wesl_tree_syntax.specs.View.{break_if_view, clause_view, continuing_view, else_if_view, else_view, expression_tree, statement_tree, statement_view}
use Rattle.wesl_json_form.specs.Schema.{a_break_if, a_clause, a_continuing, a_statement, an_elif, an_else, an_expression, node}
use Rattle.wesl_json_words.proofs.Lists.{placed-value}
use Rattle.wesl_json_words.proofs.Blocks.{as-assignment, as-break, as-call, as-continue, as-decrement, as-discard, as-increment, as-return, boxed-statement}
use Rattle.wesl_json_print_nodes.proofs.Adding.{lawful, value_is, keyed, then}
use Rattle.wesl_json_print_nodes.proofs.Parts.{no_option, option_added, some_option, span_added}
use Rattle.wesl_json_print_nodes.proofs.Lists.{all_nodes_before, no_nodes, no_nodes_before, one_node_more, some_nodes}
use Rattle.wesl_json_print_nodes.proofs.Statements.{block_printed, body_printed, clause_printed, continuing_printed, elif_printed, else_printed, for_printed, if_printed, loop_printed, placed_statement, switch_printed, while_printed}
use Rattle.wesl_json_print_nodes.proofs.statement.+printing.Goals as goal

pub print_statement-returns-in-Compound : goal.print_statement-returns-in-Compound
print_statement-returns-in-Compound g t c =
    let l = lawful g.met.S.Sink.none g.met.S.Sink.more in
    let steps = then l c.begin.ensures (then l c.print_attributes.ensures (then l c.text_at.ensures (then l (span_added c.args.spans statement_node c.args.span (c.span.ensures statement_node)) (then l c.print_statements.ensures c.close.ensures)))) in
    block_printed c.args.spans c.args.names.now c.args.span c.args.statement.now c.in-Compound.body (search rules) steps

pub print_statement-returns-in-If : goal.print_statement-returns-in-If
print_statement-returns-in-If g t c =
    let l = lawful g.met.S.Sink.none g.met.S.Sink.more in
    let steps = then l c.begin-in-If.ensures (then l c.print_attributes-in-If.ensures (then l c.print_body_at.ensures (then l c.print_expression_at.ensures (then l c.print_elifs.ensures (then l (option_added c.args.spans c.args.names.now (codes "else") (node an_else) else_view _ c.print_optional_else.ensures) (then l c.text_at-in-If.ensures (then l (span_added c.args.spans statement_node c.args.span (c.span-in-If.ensures statement_node)) c.close-in-If.ensures))))))) in
    if_printed c.args.spans c.args.names.now c.args.span c.args.statement.now c.in-If.attributes c.in-If.if_clause c.in-If.else_if_clauses c.in-If.else_clause (search rules) steps

pub print_statement-returns-in-Switch : goal.print_statement-returns-in-Switch
print_statement-returns-in-Switch g t c =
    let l = lawful g.met.S.Sink.none g.met.S.Sink.more in
    let steps = then l c.begin-in-Switch.ensures (then l c.print_attributes-in-Switch.ensures (then l c.print_attributes-in-Switch-2.ensures (then l c.print_clauses.ensures (then l c.print_expression_at-in-Switch.ensures (then l c.text_at-in-Switch.ensures (then l (span_added c.args.spans statement_node c.args.span (c.span-in-Switch.ensures statement_node)) c.close-in-Switch.ensures)))))) in
    switch_printed c.args.spans c.args.names.now c.args.span c.args.statement.now c.in-Switch.attributes c.in-Switch.expression c.in-Switch.body_attributes c.in-Switch.clauses (search rules) steps

pub print_statement-returns-in-Loop : goal.print_statement-returns-in-Loop
print_statement-returns-in-Loop g t c =
    let l = lawful g.met.S.Sink.none g.met.S.Sink.more in
    let steps = then l c.begin-in-Loop.ensures (then l c.print_attributes-in-Loop.ensures (then l c.print_body_at-in-Loop.ensures (then l (option_added c.args.spans c.args.names.now (codes "continuing") (node a_continuing) continuing_view _ c.print_optional_continuing.ensures) (then l c.text_at-in-Loop.ensures (then l (span_added c.args.spans statement_node c.args.span (c.span-in-Loop.ensures statement_node)) c.close-in-Loop.ensures))))) in
    loop_printed c.args.spans c.args.names.now c.args.span c.args.statement.now c.in-Loop.attributes c.in-Loop.body c.in-Loop.continuing (search rules) steps

pub print_statement-returns-in-For : goal.print_statement-returns-in-For
print_statement-returns-in-For g t c =
    let l = lawful g.met.S.Sink.none g.met.S.Sink.more in
    let steps = then l c.begin-in-For.ensures (then l c.print_attributes-in-For.ensures (then l c.print_body_at-in-For.ensures (then l (option_added c.args.spans c.args.names.now (codes "cond") (node an_expression) expression_tree _ c.print_optional_expression.ensures) (then l (option_added c.args.spans c.args.names.now (codes "init") (node a_statement) (λ s. statement_tree (box_value s)) _ c.print_optional_statement.ensures) (then l c.text_at-in-For.ensures (then l (span_added c.args.spans statement_node c.args.span (c.span-in-For.ensures statement_node)) (then l (option_added c.args.spans c.args.names.now (codes "update") (node a_statement) (λ s. statement_tree (box_value s)) _ c.print_optional_statement-in-For.ensures) c.close-in-For.ensures))))))) in
    for_printed c.args.spans c.args.names.now c.args.span c.args.statement.now c.in-For.attributes c.in-For.initializer c.in-For.condition c.in-For.update c.in-For.body (search rules) steps

pub print_statement-returns-in-While : goal.print_statement-returns-in-While
print_statement-returns-in-While g t c =
    let l = lawful g.met.S.Sink.none g.met.S.Sink.more in
    let steps = then l c.begin-in-While.ensures (then l c.print_attributes-in-While.ensures (then l c.print_body_at-in-While.ensures (then l c.print_expression_at-in-While.ensures (then l c.text_at-in-While.ensures (then l (span_added c.args.spans statement_node c.args.span (c.span-in-While.ensures statement_node)) c.close-in-While.ensures))))) in
    while_printed c.args.spans c.args.names.now c.args.span c.args.statement.now c.in-While.attributes c.in-While.condition c.in-While.body (search rules) steps

pub print_statement-returns-in-Assignment : goal.print_statement-returns-in-Assignment
print_statement-returns-in-Assignment g t c = placed_statement c.args.spans c.args.names.now c.args.span c.args.statement.now _ (as-assignment c.args.spans c.args.names.now c.args.statement.now _ c.in-Assignment.attributes c.in-Assignment.operator c.in-Assignment.lhs c.in-Assignment.rhs (search rules) refl) c.print_assignment.ensures

pub print_statement-returns-in-Increment : goal.print_statement-returns-in-Increment
print_statement-returns-in-Increment g t c = placed_statement c.args.spans c.args.names.now c.args.span c.args.statement.now _ (as-increment c.args.spans c.args.names.now c.args.statement.now _ c.in-Increment.attributes c.in-Increment.expression (search rules) refl) c.print_step.ensures

pub print_statement-returns-in-Decrement : goal.print_statement-returns-in-Decrement
print_statement-returns-in-Decrement g t c = placed_statement c.args.spans c.args.names.now c.args.span c.args.statement.now _ (as-decrement c.args.spans c.args.names.now c.args.statement.now _ c.in-Decrement.attributes c.in-Decrement.expression (search rules) refl) c.print_step-in-Decrement.ensures

pub print_statement-returns-in-Break : goal.print_statement-returns-in-Break
print_statement-returns-in-Break g t c = placed_statement c.args.spans c.args.names.now c.args.span c.args.statement.now _ (as-break c.args.spans c.args.names.now c.args.statement.now _ c.in-Break.attributes (search rules) refl) c.print_jump.ensures

pub print_statement-returns-in-Continue : goal.print_statement-returns-in-Continue
print_statement-returns-in-Continue g t c = placed_statement c.args.spans c.args.names.now c.args.span c.args.statement.now _ (as-continue c.args.spans c.args.names.now c.args.statement.now _ c.in-Continue.attributes (search rules) refl) c.print_jump-in-Continue.ensures

pub print_statement-returns-in-Discard : goal.print_statement-returns-in-Discard
print_statement-returns-in-Discard g t c = placed_statement c.args.spans c.args.names.now c.args.span c.args.statement.now _ (as-discard c.args.spans c.args.names.now c.args.statement.now _ c.in-Discard.attributes (search rules) refl) c.print_jump-in-Discard.ensures

pub print_statement-returns-in-Return : goal.print_statement-returns-in-Return
print_statement-returns-in-Return g t c = placed_statement c.args.spans c.args.names.now c.args.span c.args.statement.now _ (as-return c.args.spans c.args.names.now c.args.statement.now _ c.in-Return.attributes c.in-Return.expression (search rules) refl) c.print_return.ensures

pub print_statement-returns-in-FunctionCall : goal.print_statement-returns-in-FunctionCall
print_statement-returns-in-FunctionCall g t c = placed_statement c.args.spans c.args.names.now c.args.span c.args.statement.now _ (as-call c.args.spans c.args.names.now c.args.statement.now _ c.in-FunctionCall.attributes c.in-FunctionCall.call (search rules) refl) c.print_call_statement.ensures

pub print_body_at-returns : goal.print_body_at-returns
print_body_at-returns g t c =
    let l = lawful g.met.S.Sink.none g.met.S.Sink.more in
    let steps = then l c.begin.ensures (then l c.print_attributes.ensures (then l c.print_statements.ensures c.close.ensures)) in
    let inside_it = body_printed c.args.spans c.args.names.now c.args.body.now steps in
    let both = keyed l c.key.ensures inside_it in
    both

pub print_statements-returns-then-not-is_empty : goal.print_statements-returns-then-not-is_empty
print_statements-returns-then-not-is_empty g t c =
    let l = lawful g.met.S.Sink.none g.met.S.Sink.more in
    some_nodes c.args.spans c.args.names.now a_statement statement_tree l c.args.nodes.now.items (codes "stmts") (search (rules, common_steps)) c.key.ensures c.print_each_statement.ensures

pub print_statements-returns-else-not-is_empty : goal.print_statements-returns-else-not-is_empty
print_statements-returns-else-not-is_empty g t c =
    let l = lawful g.met.S.Sink.none g.met.S.Sink.more in
    no_nodes c.args.spans c.args.names.now a_statement statement_tree c.args.nodes.now.items (codes "stmts") l c.args.out.now (search (rules, common_steps))

pub print_each_statement-loop-node-init : goal.print_each_statement-loop-node-init
print_each_statement-loop-node-init g t c =
    let l = lawful g.met.S.Sink.none g.met.S.Sink.more in
    no_nodes_before c.args.spans c.args.names.now a_statement statement_tree l c.deref-node-items.result.now c.begin_list.new.self

pub print_each_statement-loop-node-preserved : goal.print_each_statement-loop-node-preserved
print_each_statement-loop-node-preserved g t c =
    let l = lawful g.met.S.Sink.none g.met.S.Sink.more in
    one_node_more c.args.spans c.args.names.now a_statement statement_tree l c.deref-node-items.result.now c.loop-node.node-index c.node-item.result _ c.loop-node-test.true c.node-item.is (sym (placed-value c.args.spans c.args.names.now a_statement statement_view statement_node c.node-item.result)) c.loop-node.invariant c.print_statement.ensures

pub print_each_statement-returns : goal.print_each_statement-returns
print_each_statement-returns g t c =
    let l = lawful g.met.S.Sink.none g.met.S.Sink.more in
    all_nodes_before c.args.spans c.args.names.now a_statement statement_tree l c.deref-node-items.result.now c.args.nodes.now.items c.loop-node.node-index c.deref-node-items.ensures.value c.loop-node-test.false c.begin_list.ensures c.loop-node.invariant c.close_list.ensures

pub print_elifs-returns-then-not-is_empty : goal.print_elifs-returns-then-not-is_empty
print_elifs-returns-then-not-is_empty g t c =
    let l = lawful g.met.S.Sink.none g.met.S.Sink.more in
    some_nodes c.args.spans c.args.names.now an_elif else_if_view l c.args.clauses.now.items (codes "elifs") (search (rules, common_steps)) c.key.ensures c.print_each_elif.ensures

pub print_elifs-returns-else-not-is_empty : goal.print_elifs-returns-else-not-is_empty
print_elifs-returns-else-not-is_empty g t c =
    let l = lawful g.met.S.Sink.none g.met.S.Sink.more in
    no_nodes c.args.spans c.args.names.now an_elif else_if_view c.args.clauses.now.items (codes "elifs") l c.args.out.now (search (rules, common_steps))

pub print_each_elif-loop-clause-init : goal.print_each_elif-loop-clause-init
print_each_elif-loop-clause-init g t c =
    let l = lawful g.met.S.Sink.none g.met.S.Sink.more in
    no_nodes_before c.args.spans c.args.names.now an_elif else_if_view l c.deref-clause-items.result.now c.begin_list.new.self

pub print_each_elif-loop-clause-preserved : goal.print_each_elif-loop-clause-preserved
print_each_elif-loop-clause-preserved g t c =
    let l = lawful g.met.S.Sink.none g.met.S.Sink.more in
    one_node_more c.args.spans c.args.names.now an_elif else_if_view l c.deref-clause-items.result.now c.loop-clause.clause-index c.clause-item.result _ c.loop-clause-test.true c.clause-item.is refl c.loop-clause.invariant c.print_elif.ensures

pub print_each_elif-returns : goal.print_each_elif-returns
print_each_elif-returns g t c =
    let l = lawful g.met.S.Sink.none g.met.S.Sink.more in
    all_nodes_before c.args.spans c.args.names.now an_elif else_if_view l c.deref-clause-items.result.now c.args.clauses.now.items c.loop-clause.clause-index c.deref-clause-items.ensures.value c.loop-clause-test.false c.begin_list.ensures c.loop-clause.invariant c.close_list.ensures

pub print_clauses-returns-then-not-is_empty : goal.print_clauses-returns-then-not-is_empty
print_clauses-returns-then-not-is_empty g t c =
    let l = lawful g.met.S.Sink.none g.met.S.Sink.more in
    some_nodes c.args.spans c.args.names.now a_clause clause_view l c.args.clauses.now.items (codes "clauses") (search (rules, common_steps)) c.key.ensures c.print_each_clause.ensures

pub print_clauses-returns-else-not-is_empty : goal.print_clauses-returns-else-not-is_empty
print_clauses-returns-else-not-is_empty g t c =
    let l = lawful g.met.S.Sink.none g.met.S.Sink.more in
    no_nodes c.args.spans c.args.names.now a_clause clause_view c.args.clauses.now.items (codes "clauses") l c.args.out.now (search (rules, common_steps))

pub print_each_clause-loop-clause-init : goal.print_each_clause-loop-clause-init
print_each_clause-loop-clause-init g t c =
    let l = lawful g.met.S.Sink.none g.met.S.Sink.more in
    no_nodes_before c.args.spans c.args.names.now a_clause clause_view l c.deref-clause-items.result.now c.begin_list.new.self

pub print_each_clause-loop-clause-preserved : goal.print_each_clause-loop-clause-preserved
print_each_clause-loop-clause-preserved g t c =
    let l = lawful g.met.S.Sink.none g.met.S.Sink.more in
    one_node_more c.args.spans c.args.names.now a_clause clause_view l c.deref-clause-items.result.now c.loop-clause.clause-index c.clause-item.result _ c.loop-clause-test.true c.clause-item.is refl c.loop-clause.invariant c.print_clause.ensures

pub print_each_clause-returns : goal.print_each_clause-returns
print_each_clause-returns g t c =
    let l = lawful g.met.S.Sink.none g.met.S.Sink.more in
    all_nodes_before c.args.spans c.args.names.now a_clause clause_view l c.deref-clause-items.result.now c.args.clauses.now.items c.loop-clause.clause-index c.deref-clause-items.ensures.value c.loop-clause-test.false c.begin_list.ensures c.loop-clause.invariant c.close_list.ensures

pub print_elif-returns : goal.print_elif-returns
print_elif-returns g t c =
    let l = lawful g.met.S.Sink.none g.met.S.Sink.more in
    let steps = then l c.begin.ensures (then l c.print_attributes.ensures (then l c.print_body_at.ensures (then l c.print_expression_at.ensures c.close.ensures))) in
    elif_printed c.args.spans c.args.names.now c.args.clause.now steps

pub print_else-returns : goal.print_else-returns
print_else-returns g t c =
    let l = lawful g.met.S.Sink.none g.met.S.Sink.more in
    let steps = then l c.begin.ensures (then l c.print_attributes.ensures (then l c.print_body_at.ensures c.close.ensures)) in
    else_printed c.args.spans c.args.names.now c.args.clause.now steps

pub print_clause-returns : goal.print_clause-returns
print_clause-returns g t c =
    let l = lawful g.met.S.Sink.none g.met.S.Sink.more in
    let steps = then l c.begin.ensures (then l c.print_attributes.ensures (then l c.print_body_at.ensures (then l c.print_cases.ensures c.close.ensures))) in
    clause_printed c.args.spans c.args.names.now c.args.clause.now steps

pub print_continuing-returns : goal.print_continuing-returns
print_continuing-returns g t c =
    let l = lawful g.met.S.Sink.none g.met.S.Sink.more in
    let steps = then l c.begin.ensures (then l c.print_attributes.ensures (then l c.print_body_at.ensures (then l (option_added c.args.spans c.args.names.now (codes "break_if") (node a_break_if) break_if_view _ c.print_optional_break_if.ensures) c.close.ensures))) in
    continuing_printed c.args.spans c.args.names.now c.args.continuing.now steps

pub print_optional_else-returns-in-Some : goal.print_optional_else-returns-in-Some
print_optional_else-returns-in-Some g t c =
    let l = lawful g.met.S.Sink.none g.met.S.Sink.more in
    let steps = keyed l c.key.ensures c.print_else.ensures in
    some_option c.args.spans c.args.names.now (codes "else") (node an_else) else_view c.args.clause.now c.in-Some.clause _ (search rules) refl steps

pub print_optional_else-returns-in-None : goal.print_optional_else-returns-in-None
print_optional_else-returns-in-None g t c =
    let l = lawful g.met.S.Sink.none g.met.S.Sink.more in
    no_option c.args.spans c.args.names.now (codes "else") (node an_else) else_view l c.args.out.now c.args.clause.now (search rules)

pub print_optional_continuing-returns-in-Some : goal.print_optional_continuing-returns-in-Some
print_optional_continuing-returns-in-Some g t c =
    let l = lawful g.met.S.Sink.none g.met.S.Sink.more in
    let steps = keyed l c.key.ensures c.print_continuing.ensures in
    some_option c.args.spans c.args.names.now (codes "continuing") (node a_continuing) continuing_view c.args.continuing.now c.in-Some.continuing _ (search rules) refl steps

pub print_optional_continuing-returns-in-None : goal.print_optional_continuing-returns-in-None
print_optional_continuing-returns-in-None g t c =
    let l = lawful g.met.S.Sink.none g.met.S.Sink.more in
    no_option c.args.spans c.args.names.now (codes "continuing") (node a_continuing) continuing_view l c.args.out.now c.args.continuing.now (search rules)

pub print_optional_statement-returns-in-Some : goal.print_optional_statement-returns-in-Some
print_optional_statement-returns-in-Some g t c =
    let l = lawful g.met.S.Sink.none g.met.S.Sink.more in
    let place : statement_at c.args.spans c.args.names.now c.deref-in-Some.result.now.span (statement_view c.deref.result.now.node) ≡ statement_at c.args.spans c.args.names.now (box_value c.in-Some.statement).span (statement_view (box_value c.in-Some.statement).node) = search rules in
    let steps = keyed l c.key.ensures c.print_statement.ensures in
    some_option c.args.spans c.args.names.now c.args.key.now (node a_statement) (λ s. statement_tree (box_value s)) c.args.statement.now c.in-Some.statement _ (search rules) (boxed-statement c.args.spans c.args.names.now c.in-Some.statement _ refl) (value_is place steps)

pub print_optional_statement-returns-in-None : goal.print_optional_statement-returns-in-None
print_optional_statement-returns-in-None g t c =
    let l = lawful g.met.S.Sink.none g.met.S.Sink.more in
    no_option c.args.spans c.args.names.now c.args.key.now (node a_statement) (λ s. statement_tree (box_value s)) l c.args.out.now c.args.statement.now (search rules)
