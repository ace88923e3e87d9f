use Rattle.std.proofs.Common.{◌≡◌, ◌+◌, ◌-◌, suc, length, true, false, Some, codes, refl, sym, ◌∙◌, subst, true≢false, arith, rules}
use Rattle.std.proofs.lemmas.List.{length-map}
use Rattle.wesl_tree_syntax.specs.Tree.{before, clauses as clause_list, compound_statement, else_clause, else_if_clause, end, for_loop, if_clause, if_statement, kind, list, loop, statements as statement_list, switch, while_loop}
use Rattle.wesl_tree_syntax.specs.View.{attributes_tree, break_if_view, clause_view, compound_view, continuing_view, else_if_view, else_view, expression_tree, if_view, listed, optional as option_view, selector_view, statement_tree, statement_view}
use Rattle.wesl_text_tokens.specs.Views.{token_of}
use Rattle.wesl_text_form.specs.Productions.{a_body, a_clause, a_continuing, a_statement, an_else, an_else_if, an_expression, an_if, attrs, nothing, own, says}
use Rattle.wesl_text_reading.specs.FirstTokens.{statement_label}
use Rattle.wesl_text_reading.specs.Reading.{any, at_level, node}
use Rattle.wesl_text_read.specs.declared.reader.Reader.{Reader}
use Rattle.wesl_text_read.specs.Leads.{Reads, ahead}
use Rattle.wesl_text_read.specs.Levels.{inner}
use Rattle.wesl_text_read.proofs.Expressions.{viewed}
use Rattle.wesl_text_read.proofs.Leading.{levelled, seen}
use Rattle.wesl_text_read_ahead.specs.Ahead.{tokens_of}
use Rattle.wesl_text_read_simple.specs.Starts.{simple_label}
use Rattle.wesl_text_read_statements.specs.Statements.{boxed_statement}
use Rattle.wesl_text_read_statements.proofs.Along.{RowRead, along_ends, along_may, along_optional, along_own, along_run, along_says, along_sign, node_read}
use Rattle.wesl_text_read_statements.proofs.Bodies.{block_made, body-level, body_made, body_row, clause-level, clause_end, clause_parts, lower-level}
use Rattle.wesl_text_read_statements.proofs.ForLoop.{for_row}
use Rattle.wesl_text_read_statements.proofs.Runs.{Grows, grow_begins, grow_ends, grow_more}
use Rattle.wesl_text_read_statements.proofs.Seen.{part_absent, part_present}
use Rattle.wesl_text_read_statements.proofs.Stated.{compound_stated, continuing_end, continuing_stated, for_stated, if_row, if_stated, kind_stated, loop_end, loop_stated, simple_stated, statement_placed, still_behind, switch_row, switch_stated, while_row, while_stated}
use Rattle.wesl_text_read_statements.proofs.Views.{view-for}
use Rattle.wesl_text_read_statements.proofs.statement.+statements.Goals as goal
use Rattle.wesl_text_read_statements.proofs.statement.+statements.Goals.{read_statements-then-statements-test+else-room-gt0, read_statements-else-statements-test, lower_statements-then-statements-test+else-room-gt0, lower_statements-else-statements-test, read_else_ifs-then-clauses-test+else-room-gt0, read_else_ifs-else-clauses-test, read_clauses-then-clauses-test+else-room-gt0, read_clauses-else-clauses-test}
use Rattle.wesl_tree_syntax.proofs.Views.{view_block, view_clause_of, view_compound_of, view_continuing_of, view_else_if_of, view_else_of, view_if, view_if_clause_of, view_loop, view_switch, view_while}

pub read_body-returns : goal.read_body-returns
read_body-returns t c =
    let down : c.body_within-body.new.reader.levels ≡ c.args.reader.now.levels - 1 = c.body_within-body.ensures.levels in
    let above : c.args.reader.now.levels ≡ suc (c.args.reader.now.levels - 1) = omega arith in
    let up : c.body_within-body.new.reader.levels + 1 ≡ c.args.reader.now.levels = omega arith in
    let below : Reader = record c.args.reader.now { levels = c.args.reader.now.levels - 1 } in
    let read : Reads (node (inner below.levels) a_body) (compound_view c.body_within-body.result) below c.body_within-body.new.reader = c.body_within-body.ensures in
    levelled {s = below} {e = c.body_within-body.new.reader} refl refl refl refl refl refl up
    (seen {s = below} (λ ns. body-level c.args.reader.now.levels below.levels (ahead c.args.reader.now) above) (λ ns. refl) read)

pub lower_statement-returns : goal.lower_statement-returns
lower_statement-returns t c =
    let down : c.read_statement-statement.new.reader.levels ≡ c.args.reader.now.levels - 1 = c.read_statement-statement.ensures.levels in
    let above : c.args.reader.now.levels ≡ suc (c.args.reader.now.levels - 1) = omega arith in
    let up : c.read_statement-statement.new.reader.levels + 1 ≡ c.args.reader.now.levels = omega arith in
    let below : Reader = record c.args.reader.now { levels = c.args.reader.now.levels - 1 } in
    let read : Reads (inner below.levels a_statement) (statement_tree c.read_statement-statement.result) below c.read_statement-statement.new.reader = c.read_statement-statement.ensures in
    levelled {s = below} {e = c.read_statement-statement.new.reader} refl refl refl refl refl refl up
    (seen {s = below} (λ ns. lower-level c.args.reader.now.levels below.levels (ahead c.args.reader.now) above) (λ ns. refl) read)

pub body_within-returns : goal.body_within-returns
body_within-returns t c =
    let a = attributes_tree c.attributes-attributes.result in
    let v = listed statement_tree statement_list c.read_statements-statements.result in
    let row : RowRead c.args.reader.now.levels body_row (before a (before v end)) c.args.reader.now c.close_block.new.reader =
    along_run a refl c.attributes-attributes.ensures (λ l.
    along_sign l c.skip_sign.ensures (λ l.
    along_run v l c.read_statements-statements.ensures (λ l.
    along_sign l c.close_block.ensures (λ l.
    along_ends)))) in
    viewed _ _ (sym (view_compound_of c.attributes-attributes.result c.read_statements-statements.result)) (body_made c.args.reader.now.levels (before a (before v end)) row.leads)

pub read_block-returns : goal.read_block-returns
read_block-returns t c =
    viewed _ _ (sym (view_compound_of c.attributes-attributes.result c.lower_statements-statements.result))
    (block_made (attributes_tree c.attributes-attributes.result) (listed statement_tree statement_list c.lower_statements-statements.result) c.attributes-attributes.ensures c.skip_sign.ensures c.lower_statements-statements.ensures)

pub read_statements-statements-init : goal.read_statements-statements-init
read_statements-statements-init t c =
    subst (λ z. Grows statement_tree a_statement (λ n. inner n a_statement) c.begins_statement-goes_on.result (length c.args.reader.now.rest.now) z c.args.reader.now c.begins_statement-goes_on.new.reader) (sym c.new-statements.ensures.items)
    (grow_begins statement_tree a_statement (λ n. inner n a_statement) _ _ (sym (length-map c.args.reader.now.rest.now (λ p. token_of p.token))) c.begins_statement-goes_on.ensures)

pub read_statements-statements-preserved : goal.read_statements-statements-preserved
read_statements-statements-preserved t c =
    grow_more statement_tree a_statement (λ n. inner n a_statement) c.statements.goes_on c.begins_statement-goes_on-in-statements.result c.statements.room _ c.statements.statements.items _ c.read_statement-statement.result c.statements-test.true (omega arith) c.statements.invariant c.read_statement-statement.ensures c.put.ensures.put c.put.ensures.keeps c.begins_statement-goes_on-in-statements.ensures

pub read_statements-returns : goal.read_statements-returns
read_statements-returns t c =
    let none : c.statements.goes_on ≡ true → c.statements.room ≡ 0 = elim c.statements-test.branch as (λ _. c.statements.goes_on ≡ true → c.statements.room ≡ 0) [
      | read_statements-then-statements-test+else-room-gt0 w ↦ λ h. (let few = w.if-room-gt0.false in omega arith)
      | read_statements-else-statements-test w ↦ λ h. absurd (true≢false (sym h ∙ w.statements-test.false))
    ] in
    grow_ends statement_tree a_statement (λ n. inner n a_statement) statement_list c.statements.goes_on c.statements.room c.statements.statements.items none c.statements.invariant c.wrong_if.ensures.refuses c.wrong_if.ensures.same

pub lower_statements-statements-init : goal.lower_statements-statements-init
lower_statements-statements-init t c =
    subst (λ z. Grows statement_tree a_statement (λ n. at_level n any a_statement) c.begins_statement-goes_on.result (length c.args.reader.now.rest.now) z c.args.reader.now c.begins_statement-goes_on.new.reader) (sym c.new-statements.ensures.items)
    (grow_begins statement_tree a_statement (λ n. at_level n any a_statement) _ _ (sym (length-map c.args.reader.now.rest.now (λ p. token_of p.token))) c.begins_statement-goes_on.ensures)

pub lower_statements-statements-preserved : goal.lower_statements-statements-preserved
lower_statements-statements-preserved t c =
    grow_more statement_tree a_statement (λ n. at_level n any a_statement) c.statements.goes_on c.begins_statement-goes_on-in-statements.result c.statements.room _ c.statements.statements.items _ c.lower_statement-statement.result c.statements-test.true (omega arith) c.statements.invariant c.lower_statement-statement.ensures c.put.ensures.put c.put.ensures.keeps c.begins_statement-goes_on-in-statements.ensures

pub lower_statements-returns : goal.lower_statements-returns
lower_statements-returns t c =
    let none : c.statements.goes_on ≡ true → c.statements.room ≡ 0 = elim c.statements-test.branch as (λ _. c.statements.goes_on ≡ true → c.statements.room ≡ 0) [
      | lower_statements-then-statements-test+else-room-gt0 w ↦ λ h. (let few = w.if-room-gt0.false in omega arith)
      | lower_statements-else-statements-test w ↦ λ h. absurd (true≢false (sym h ∙ w.statements-test.false))
    ] in
    grow_ends statement_tree a_statement (λ n. at_level n any a_statement) statement_list c.statements.goes_on c.statements.room c.statements.statements.items none c.statements.invariant c.wrong_if.ensures.refuses c.wrong_if.ensures.same

pub read_else_ifs-clauses-init : goal.read_else_ifs-clauses-init
read_else_ifs-clauses-init t c =
    subst (λ z. Grows else_if_view an_else_if (λ n. inner n an_else_if) c.begins_else_if-goes_on.result (length c.args.reader.now.rest.now) z c.args.reader.now c.begins_else_if-goes_on.new.reader) (sym c.new-clauses.ensures.items)
    (grow_begins else_if_view an_else_if (λ n. inner n an_else_if) _ _ (sym (length-map c.args.reader.now.rest.now (λ p. token_of p.token))) c.begins_else_if-goes_on.ensures)

pub read_else_ifs-clauses-preserved : goal.read_else_ifs-clauses-preserved
read_else_ifs-clauses-preserved t c =
    grow_more else_if_view an_else_if (λ n. inner n an_else_if) c.clauses.goes_on c.begins_else_if-goes_on-in-clauses.result c.clauses.room _ c.clauses.clauses.items _ c.read_else_if-clause.result c.clauses-test.true (omega arith) c.clauses.invariant c.read_else_if-clause.ensures c.put.ensures.put c.put.ensures.keeps c.begins_else_if-goes_on-in-clauses.ensures

pub read_else_ifs-returns : goal.read_else_ifs-returns
read_else_ifs-returns t c =
    let none : c.clauses.goes_on ≡ true → c.clauses.room ≡ 0 = elim c.clauses-test.branch as (λ _. c.clauses.goes_on ≡ true → c.clauses.room ≡ 0) [
      | read_else_ifs-then-clauses-test+else-room-gt0 w ↦ λ h. (let few = w.if-room-gt0.false in omega arith)
      | read_else_ifs-else-clauses-test w ↦ λ h. absurd (true≢false (sym h ∙ w.clauses-test.false))
    ] in
    grow_ends else_if_view an_else_if (λ n. inner n an_else_if) list c.clauses.goes_on c.clauses.room c.clauses.clauses.items none c.clauses.invariant c.wrong_if.ensures.refuses c.wrong_if.ensures.same

pub read_clauses-clauses-init : goal.read_clauses-clauses-init
read_clauses-clauses-init t c =
    subst (λ z. Grows clause_view a_clause (λ n. inner n a_clause) c.begins_clause-goes_on.result (length c.args.reader.now.rest.now) z c.args.reader.now c.begins_clause-goes_on.new.reader) (sym c.new-clauses.ensures.items)
    (grow_begins clause_view a_clause (λ n. inner n a_clause) _ _ (sym (length-map c.args.reader.now.rest.now (λ p. token_of p.token))) c.begins_clause-goes_on.ensures)

pub read_clauses-clauses-preserved : goal.read_clauses-clauses-preserved
read_clauses-clauses-preserved t c =
    grow_more clause_view a_clause (λ n. inner n a_clause) c.clauses.goes_on c.begins_clause-goes_on-in-clauses.result c.clauses.room _ c.clauses.clauses.items _ c.read_clause-clause.result c.clauses-test.true (omega arith) c.clauses.invariant c.read_clause-clause.ensures c.put.ensures.put c.put.ensures.keeps c.begins_clause-goes_on-in-clauses.ensures

pub read_clauses-returns : goal.read_clauses-returns
read_clauses-returns t c =
    let none : c.clauses.goes_on ≡ true → c.clauses.room ≡ 0 = elim c.clauses-test.branch as (λ _. c.clauses.goes_on ≡ true → c.clauses.room ≡ 0) [
      | read_clauses-then-clauses-test+else-room-gt0 w ↦ λ h. (let few = w.if-room-gt0.false in omega arith)
      | read_clauses-else-clauses-test w ↦ λ h. absurd (true≢false (sym h ∙ w.clauses-test.false))
    ] in
    grow_ends clause_view a_clause (λ n. inner n a_clause) clause_list c.clauses.goes_on c.clauses.room c.clauses.clauses.items none c.clauses.invariant c.wrong_if.ensures.refuses c.wrong_if.ensures.same

pub read_statement-returns : goal.read_statement-returns
read_statement-returns t c =
    statement_placed c.read_bare_statement-node.result c.placed.result c.read_bare_statement-node.ensures c.placed.ensures

pub read_bare_statement-returns-in-If : goal.read_bare_statement-returns-in-If
read_bare_statement-returns-in-If t c =
    let known : statement_label (tokens_of c.peek_behind-behind.result.now) ≡ Some (kind if_statement) = search rules in
    kind_stated (tokens_of c.peek_behind-behind.result.now) if_statement known c.peek_behind-behind.ensures (statement_view c.read_if.result) c.read_if.ensures

pub read_bare_statement-returns-in-Switch : goal.read_bare_statement-returns-in-Switch
read_bare_statement-returns-in-Switch t c =
    let known : statement_label (tokens_of c.peek_behind-behind.result.now) ≡ Some (kind switch) = search rules in
    kind_stated (tokens_of c.peek_behind-behind.result.now) switch known c.peek_behind-behind.ensures (statement_view c.read_switch.result) c.read_switch.ensures

pub read_bare_statement-returns-in-Loop : goal.read_bare_statement-returns-in-Loop
read_bare_statement-returns-in-Loop t c =
    let known : statement_label (tokens_of c.peek_behind-behind.result.now) ≡ Some (kind loop) = search rules in
    kind_stated (tokens_of c.peek_behind-behind.result.now) loop known c.peek_behind-behind.ensures (statement_view c.read_loop.result) c.read_loop.ensures

pub read_bare_statement-returns-in-For : goal.read_bare_statement-returns-in-For
read_bare_statement-returns-in-For t c =
    let known : statement_label (tokens_of c.peek_behind-behind.result.now) ≡ Some (kind for_loop) = search rules in
    kind_stated (tokens_of c.peek_behind-behind.result.now) for_loop known c.peek_behind-behind.ensures (statement_view c.read_for.result) c.read_for.ensures

pub read_bare_statement-returns-in-While : goal.read_bare_statement-returns-in-While
read_bare_statement-returns-in-While t c =
    let known : statement_label (tokens_of c.peek_behind-behind.result.now) ≡ Some (kind while_loop) = search rules in
    kind_stated (tokens_of c.peek_behind-behind.result.now) while_loop known c.peek_behind-behind.ensures (statement_view c.read_while.result) c.read_while.ensures

pub read_bare_statement-returns-in-Compound : goal.read_bare_statement-returns-in-Compound
read_bare_statement-returns-in-Compound t c =
    let known : statement_label (tokens_of c.peek_behind-behind.result.now) ≡ Some (kind compound_statement) = search rules in
    viewed _ _ (sym (view_block c.read_body.result)) (compound_stated (tokens_of c.peek_behind-behind.result.now) (compound_view c.read_body.result) known c.peek_behind-behind.ensures c.read_body.ensures)

pub read_bare_statement-read_simple-requires : goal.read_bare_statement-read_simple-requires
read_bare_statement-read_simple-requires t c =
    still_behind (tokens_of c.peek_behind-behind.result.now) c.peek_behind-behind.ensures (simple_label c.in-Simple.start) (search rules)

pub read_bare_statement-returns-in-Simple : goal.read_bare_statement-returns-in-Simple
read_bare_statement-returns-in-Simple t c =
    simple_stated (tokens_of c.peek_behind-behind.result.now) c.peek_behind-behind.ensures (statement_view c.read_simple.result) c.read_simple.ensures

pub read_if-returns : goal.read_if-returns
read_if-returns t c =
    let a = attributes_tree c.attributes-attributes.result in
    let i = if_view c.read_if_clause-if_clause.result in
    let es = listed else_if_view list c.read_else_ifs-else_if_clauses.result in
    let o = option_view else_view c.optional_else-else_clause.result in
    let row : RowRead c.args.reader.now.levels if_row (before a (before i (before es (before o end)))) c.args.reader.now c.optional_else-else_clause.new.reader =
    along_run a refl c.attributes-attributes.ensures (λ l.
    along_own i l c.read_if_clause-if_clause.ensures (λ l.
    along_run es l c.read_else_ifs-else_if_clauses.ensures (λ l.
    along_optional o l c.optional_else-else_clause.ensures (λ l.
    along_ends)))) in
    viewed _ _ (sym (view_if c.attributes-attributes.result c.read_if_clause-if_clause.result c.read_else_ifs-else_if_clauses.result c.optional_else-else_clause.result))
    (if_stated c.args.reader.now.levels (before a (before i (before es (before o end)))) row.leads)

pub read_if_clause-returns : goal.read_if_clause-returns
read_if_clause-returns t c =
    let x = expression_tree c.expression-expression.result in
    let b = compound_view c.read_body-body.result in
    let row : RowRead c.args.reader.now.levels (says (codes "if") (own an_expression (own a_body nothing))) (before x (before b end)) c.args.reader.now c.read_body-body.new.reader =
    along_says refl c.skip_word.ensures (λ l.
    along_own x l c.expression-expression.ensures (λ l.
    along_own b l c.read_body-body.ensures (λ l.
    along_ends))) in
    viewed _ _ (sym (view_if_clause_of c.expression-expression.result c.read_body-body.result)) (node_read an_if if_clause (λ ts. refl) row)

pub read_else_if-returns : goal.read_else_if-returns
read_else_if-returns t c =
    let a = attributes_tree c.attributes-attributes.result in
    let x = expression_tree c.expression-expression.result in
    let b = compound_view c.read_body-body.result in
    let row : RowRead c.args.reader.now.levels (attrs (says (codes "else") (says (codes "if") (own an_expression (own a_body nothing))))) (before a (before x (before b end))) c.args.reader.now c.read_body-body.new.reader =
    along_run a refl c.attributes-attributes.ensures (λ l.
    along_says l c.skip_word.ensures (λ l.
    along_says l c.skip_word-2.ensures (λ l.
    along_own x l c.expression-expression.ensures (λ l.
    along_own b l c.read_body-body.ensures (λ l.
    along_ends))))) in
    viewed _ _ (sym (view_else_if_of c.attributes-attributes.result c.expression-expression.result c.read_body-body.result)) (node_read an_else_if else_if_clause (λ ts. refl) row)

pub read_else-returns : goal.read_else-returns
read_else-returns t c =
    let a = attributes_tree c.attributes-attributes.result in
    let b = compound_view c.read_body-body.result in
    let row : RowRead c.args.reader.now.levels (attrs (says (codes "else") (own a_body nothing))) (before a (before b end)) c.args.reader.now c.read_body-body.new.reader =
    along_run a refl c.attributes-attributes.ensures (λ l.
    along_says l c.skip_word.ensures (λ l.
    along_own b l c.read_body-body.ensures (λ l.
    along_ends))) in
    viewed _ _ (sym (view_else_of c.attributes-attributes.result c.read_body-body.result)) (node_read an_else else_clause (λ ts. refl) row)

pub optional_else-returns-then-not-begins_else : goal.optional_else-returns-then-not-begins_else
optional_else-returns-then-not-begins_else t c =
    let none : c.begins_else.result ≡ false = search rules in
    part_absent an_else c.begins_else.result c.begins_else.ensures none

pub optional_else-returns : goal.optional_else-returns
optional_else-returns t c =
    let there : c.begins_else.result ≡ true = search rules in
    part_present an_else c.begins_else.result c.begins_else.ensures (else_view c.read_else.result) there c.read_else.ensures

pub optional_continuing-returns-then-not-begins_continuing : goal.optional_continuing-returns-then-not-begins_continuing
optional_continuing-returns-then-not-begins_continuing t c =
    let none : c.begins_continuing.result ≡ false = search rules in
    part_absent a_continuing c.begins_continuing.result c.begins_continuing.ensures none

pub optional_continuing-returns : goal.optional_continuing-returns
optional_continuing-returns t c =
    let there : c.begins_continuing.result ≡ true = search rules in
    part_present a_continuing c.begins_continuing.result c.begins_continuing.ensures (continuing_view c.read_continuing.result) there c.read_continuing.ensures

pub read_switch-returns : goal.read_switch-returns
read_switch-returns t c =
    let a = attributes_tree c.attributes-attributes.result in
    let x = expression_tree c.expression-expression.result in
    let b = attributes_tree c.attributes-body_attributes.result in
    let v = listed clause_view clause_list c.read_clauses-clauses.result in
    let row : RowRead c.args.reader.now.levels switch_row (before a (before x (before b (before v end)))) c.args.reader.now c.close_block.new.reader =
    along_run a refl c.attributes-attributes.ensures (λ l.
    along_says l c.skip_word.ensures (λ l.
    along_own x l c.expression-expression.ensures (λ l.
    along_run b l c.attributes-body_attributes.ensures (λ l.
    along_sign l c.skip_sign.ensures (λ l.
    along_run v l c.read_clauses-clauses.ensures (λ l.
    along_sign l c.close_block.ensures (λ l.
    along_ends))))))) in
    viewed _ _ (sym (view_switch c.attributes-attributes.result c.expression-expression.result c.attributes-body_attributes.result c.read_clauses-clauses.result))
    (switch_stated c.args.reader.now.levels (before a (before x (before b (before v end)))) row.leads)

pub read_clause-returns : goal.read_clause-returns
read_clause-returns t c =
    let down : c.clause_within-clause.new.reader.levels ≡ c.args.reader.now.levels - 1 = c.clause_within-clause.ensures.levels in
    let above : c.args.reader.now.levels ≡ suc (c.args.reader.now.levels - 1) = omega arith in
    let up : c.clause_within-clause.new.reader.levels + 1 ≡ c.args.reader.now.levels = omega arith in
    let below : Reader = record c.args.reader.now { levels = c.args.reader.now.levels - 1 } in
    let read : Reads (node (inner below.levels) a_clause) (clause_view c.clause_within-clause.result) below c.clause_within-clause.new.reader = c.clause_within-clause.ensures in
    levelled {s = below} {e = c.clause_within-clause.new.reader} refl refl refl refl refl refl up
    (seen {s = below} (λ ns. clause-level c.args.reader.now.levels below.levels (ahead c.args.reader.now) above) (λ ns. refl) read)

pub clause_within-returns : goal.clause_within-returns
clause_within-returns t c =
    let n = c.args.reader.now.levels in
    let a = attributes_tree c.attributes-attributes.result in
    let v = listed selector_view list c.some_selectors-case_selectors.result in
    let b = compound_view c.read_body-body.result in
    let first : c.some_selectors-case_selectors.new.reader.levels ≡ n = c.some_selectors-case_selectors.ensures.levels ∙ c.attributes-attributes.ensures.levels in
    let row : RowRead n clause_end (before b end) c.some_selectors-case_selectors.new.reader c.read_body-body.new.reader =
    along_may first c.skip_colon.ensures (λ l.
    along_own b l c.read_body-body.ensures (λ l.
    along_ends)) in
    viewed _ _ (sym (view_clause_of c.attributes-attributes.result c.some_selectors-case_selectors.result c.read_body-body.result))
    (clause_parts a v (before b end) c.attributes-attributes.ensures c.some_selectors-case_selectors.ensures row.leads)

pub read_loop-returns : goal.read_loop-returns
read_loop-returns t c =
    let n = c.args.reader.now.levels in
    let a = attributes_tree c.attributes-attributes.result in
    let b = compound_view c.read_block-body.result in
    let o = option_view continuing_view c.optional_continuing-continuing.result in
    let row : c.read_block-body.new.reader.levels ≡ n → RowRead n loop_end (before o end) c.read_block-body.new.reader c.close_block.new.reader =
    λ l.
    along_optional o l c.optional_continuing-continuing.ensures (λ l.
    along_sign l c.close_block.ensures (λ l.
    along_ends)) in
    viewed _ _ (sym (view_loop c.attributes-attributes.result c.read_block-body.result c.optional_continuing-continuing.result))
    (loop_stated a b (before o end) c.attributes-attributes.ensures c.skip_word.ensures c.read_block-body.ensures (λ l. (row l).leads))

pub read_continuing-returns : goal.read_continuing-returns
read_continuing-returns t c =
    let n = c.args.reader.now.levels in
    let a = attributes_tree c.attributes-attributes.result in
    let b = compound_view c.read_block-body.result in
    let o = option_view break_if_view c.optional_break_if-break_if.result in
    let row : c.read_block-body.new.reader.levels ≡ n → RowRead n continuing_end (before o end) c.read_block-body.new.reader c.close_block.new.reader =
    λ l.
    along_optional o l c.optional_break_if-break_if.ensures (λ l.
    along_sign l c.close_block.ensures (λ l.
    along_ends)) in
    viewed _ _ (sym (view_continuing_of c.attributes-attributes.result c.read_block-body.result c.optional_break_if-break_if.result))
    (continuing_stated a b (before o end) c.attributes-attributes.ensures c.skip_word.ensures c.read_block-body.ensures (λ l. (row l).leads))

pub read_for-returns : goal.read_for-returns
read_for-returns t c =
    let a = attributes_tree c.attributes-attributes.result in
    let i = option_view boxed_statement c.optional_part-initializer.result in
    let x = option_view expression_tree c.optional_expression-condition.result in
    let u = option_view boxed_statement c.optional_part-update.result in
    let b = compound_view c.read_body-body.result in
    let row : RowRead c.args.reader.now.levels for_row (before a (before i (before x (before u (before b end))))) c.args.reader.now c.read_body-body.new.reader =
    along_run a refl c.attributes-attributes.ensures (λ l.
    along_says l c.skip_word.ensures (λ l.
    along_sign l c.skip_sign.ensures (λ l.
    along_optional i l c.optional_part-initializer.ensures (λ l.
    along_sign l c.skip_sign-2.ensures (λ l.
    along_optional x l c.optional_expression-condition.ensures (λ l.
    along_sign l c.skip_sign-3.ensures (λ l.
    along_optional u l c.optional_part-update.ensures (λ l.
    along_sign l c.skip_sign-4.ensures (λ l.
    along_own b l c.read_body-body.ensures (λ l.
    along_ends)))))))))) in
    viewed _ _ (sym (view-for c.attributes-attributes.result c.optional_part-initializer.result c.optional_expression-condition.result c.optional_part-update.result c.read_body-body.result))
    (for_stated c.args.reader.now.levels (before a (before i (before x (before u (before b end))))) row.leads)

pub read_while-returns : goal.read_while-returns
read_while-returns t c =
    let a = attributes_tree c.attributes-attributes.result in
    let x = expression_tree c.expression-condition.result in
    let b = compound_view c.read_body-body.result in
    let row : RowRead c.args.reader.now.levels while_row (before a (before x (before b end))) c.args.reader.now c.read_body-body.new.reader =
    along_run a refl c.attributes-attributes.ensures (λ l.
    along_says l c.skip_word.ensures (λ l.
    along_own x l c.expression-condition.ensures (λ l.
    along_own b l c.read_body-body.ensures (λ l.
    along_ends)))) in
    viewed _ _ (sym (view_while c.attributes-attributes.result c.expression-condition.result c.read_body-body.result))
    (while_stated c.args.reader.now.levels (before a (before x (before b end))) row.leads)
