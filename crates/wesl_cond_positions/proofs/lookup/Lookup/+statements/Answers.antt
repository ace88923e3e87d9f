use Rattle.std.proofs.Common.{◌∙◌, [], ◌∷◌, ap, arith, drop, get_or, length, map, take, refl, rules}
use Rattle.std.specs.Prelude.{None}
use Rattle.std.specs.Box.{box_value}
use Rattle.wesl_tree_syntax.specs.Tree.{Forest, Tree, at, before, clauses as clauses_kind, continuing as continuing_kind, end, forest_of, list, loop, statement_node, statements as statements_kind}
use Rattle.wesl_tree_syntax.specs.View.{break_if_view, clause_view, compound_view, continuing_view, else_if_view, expression_tree, listed, optional, selector_view, statement_tree, statement_view}
use Rattle.wesl_tree_syntax.specs.declared.statement.CompoundStatement.{out-CompoundStatement}
use Rattle.wesl_tree_syntax.specs.declared.statement.ContinuingStatement.{out-ContinuingStatement}
use Rattle.wesl_tree_syntax.specs.declared.statement.SwitchClause.{out-SwitchClause}
use Rattle.wesl_cond_alive.specs.Views.{outline_view}
use Rattle.wesl_cond_alive.proofs.Once.{ok_map}
use Rattle.wesl_cond_positions.proofs.Fields.{alone, begins_by, begins_two, begins_with, no_element, this_element, through_span}
use Rattle.wesl_cond_positions.proofs.Nodes.{body_found, closing_list, continuing_closing, element_found, last_found, last_leaf_found, loop_closing, no_element_found, no_statement_found, nowhere, onward, statement_found}
use Rattle.wesl_cond_positions.proofs.lookup.Lookup.+statements.Goals as goal
use Rattle.wesl_tree_syntax.proofs.Views.{view_clause, view_compound, view_continuing, view_for, view_loop, view_while}

pub compound-returns-in-1 : goal.compound-returns-in-1
compound-returns-in-1 t c =
    let b = out-CompoundStatement c.args.body.now in
    onward c.args.self.now (compound_view c.args.body.now) _ (listed statement_tree statements_kind b.statements) 1 c.args.position.now _ c.statements.result
    (view_compound c.args.body.now) (λ choice. refl) c.statements.ensures (begins_by c.args.position.now 0 _ 1 c.in-1.len_at_least (omega arith) (search rules))

pub clause-returns-in-1 : goal.clause-returns-in-1
clause-returns-in-1 t c =
    let k = out-SwitchClause c.args.clause.now in
    onward c.args.self.now (clause_view c.args.clause.now) _ (listed selector_view list k.case_selectors) 1 c.args.position.now _ c.selectors.result
    (view_clause c.args.clause.now) (λ choice. alone choice None _ (listed selector_view list k.case_selectors) (before (compound_view k.body) end)) c.selectors.ensures (begins_by c.args.position.now 0 _ 1 c.in-1.len_at_least (omega arith) (search rules))

pub clause-returns-in-2 : goal.clause-returns-in-2
clause-returns-in-2 t c =
    let k = out-SwitchClause c.args.clause.now in
    onward c.args.self.now (clause_view c.args.clause.now) _ (compound_view k.body) 2 c.args.position.now _ c.compound.result
    (view_clause c.args.clause.now) (λ choice. refl) c.compound.ensures (begins_by c.args.position.now 0 _ 2 c.in-2.len_at_least (omega arith) (search rules))

pub clauses-returns-then-number-len : goal.clauses-returns-then-number-len
clauses-returns-then-number-len t c =
    let xs = c.args.clauses.now.items in
    no_element_found c.args.self.now clause_view clauses_kind (λ choice. record { entered = refl; plain = refl; list = refl; closed = refl; compound = refl }) xs _ c.args.position.now _ c.none.result
    c.if-number-len.true (omega (arith, c.len.ensures)) c.none.ensures (begins_with c.args.position.now 0 (length c.args.position.now) c.in-len1-up.len_at_least (omega arith))

pub clauses-returns-in_ok-clause-in-len1-up : goal.clauses-returns-in_ok-clause-in-len1-up
clauses-returns-in_ok-clause-in-len1-up t c =
    let xs = c.args.clauses.now.items in
    element_found c.args.self.now clause_view clauses_kind (λ choice. record { entered = refl; plain = refl; list = refl; closed = refl; compound = refl }) xs c.index.result.now (clause_view c.index.result.now) _ c.args.position.now _
    c.in_ok-kept-in-len1-up.kept c.in_ok-clause-in-len1-up.field-0 c.and.new.self (omega (arith, c.if-number-len.false, c.len.ensures)) c.index.ensures (λ choice. refl)
    c.in_ok-kept-in-len1-up.ensures c.in_ok-clause-in-len1-up.ensures c.and.ensures.over c.and.ensures.both (begins_with c.args.position.now _ _ c.in-len1-up.len_at_least (omega arith))

pub closed_body-returns-then-number-len : goal.closed_body-returns-then-number-len
closed_body-returns-then-number-len t c = λ xs is.
    let b = out-CompoundStatement c.args.body.now in
    no_statement_found c.args.self.now (compound_view c.args.body.now) b.attributes b.statements.items (view_compound c.args.body.now) xs _ c.args.position.now _ c.none.result
    c.if-number-len.true (omega (arith, c.len.ensures)) c.none.ensures (begins_two c.args.position.now 0 0 (length c.args.position.now) 1 c.in-1.len_at_least (omega arith) (search rules))

pub closed_body-returns-in_ok-statement-in-1 : goal.closed_body-returns-in_ok-statement-in-1
closed_body-returns-in_ok-statement-in-1 t c = λ xs is.
    let b = out-CompoundStatement c.args.body.now in
    statement_found c.args.self.now (compound_view c.args.body.now) b.attributes b.statements.items (view_compound c.args.body.now) xs c.index.result.now _ c.args.position.now _
    c.in_ok-kept-in-1.kept c.in_ok-statement-in-1.field-0 c.and.new.self (omega (arith, c.if-number-len.false, c.len.ensures)) c.index.ensures
    (c.in_ok-kept-in-1.ensures.kept xs is) c.in_ok-statement-in-1.ensures c.and.ensures.over c.and.ensures.both (begins_two c.args.position.now 0 _ _ 1 c.in-1.len_at_least (omega arith) (search rules))

pub continuing-returns-in-1 : goal.continuing-returns-in-1
continuing-returns-in-1 t c =
    let v = out-ContinuingStatement c.args.continuing.now in
    body_found c.args.self.now break_if_view continuing_kind continuing_closing (continuing_view c.args.continuing.now) v.attributes v.body v.break_if (view_continuing c.args.continuing.now)
    c.args.position.now _ c.closed_body.result
    (c.closed_body.ensures (closing_list break_if_view v.body v.break_if) (ap (map outline_view) c.deref.ensures.value ∙ c.in_ok-nodes.ensures)) (begins_by c.args.position.now 0 _ 1 c.in-1.len_at_least (omega arith) (search rules))

pub continuing-returns-in-2 : goal.continuing-returns-in-2
continuing-returns-in-2 t c =
    let v = out-ContinuingStatement c.args.continuing.now in
    last_leaf_found c.args.self.now break_if_view continuing_kind continuing_closing (continuing_view c.args.continuing.now) v.attributes v.body v.break_if (view_continuing c.args.continuing.now)
    (λ x. refl) c.args.position.now (take (length c.args.position.now) (drop 1 c.args.position.now)) c.len.result c.numbered.result (omega (arith, c.len.ensures))
    (ok_map c.numbered.result _ _ (λ s f. f (closing_list break_if_view v.body v.break_if) (ap (map outline_view) c.deref-in-2.ensures.value ∙ c.in_ok-nodes.ensures)) c.numbered.ensures.kept)
    (begins_by c.args.position.now 0 _ 2 c.in-2.len_at_least (omega arith) (search rules))

pub else_if_clauses-returns-then-number-len : goal.else_if_clauses-returns-then-number-len
else_if_clauses-returns-then-number-len t c =
    let i = get_or c.args.position.now 0 0 in
    nowhere c.args.self.now (listed else_if_view list c.args.clauses.now) (listed else_if_view list c.args.clauses.now) i c.args.position.now (take (length c.args.position.now) (drop 1 c.args.position.now)) c.none.result
    refl (λ choice. no_element choice else_if_view None i _ c.args.clauses.now.items (omega (arith, c.if-number-len.true, c.len.ensures))) c.none.ensures
    (begins_with c.args.position.now 0 (length c.args.position.now) c.in-len1-up.len_at_least (omega arith))

pub else_if_clauses-returns-else-number-len : goal.else_if_clauses-returns-else-number-len
else_if_clauses-returns-else-number-len t c =
    let xs = c.args.clauses.now.items in
    let x = c.index.result.now in
    onward c.args.self.now (listed else_if_view list c.args.clauses.now) (listed else_if_view list c.args.clauses.now) (else_if_view x) _ c.args.position.now _ c.else_if_clause.result
    refl (λ choice. this_element choice else_if_view _ _ xs x (omega (arith, c.if-number-len.false, c.len.ensures)) c.index.ensures) c.else_if_clause.ensures (begins_with c.args.position.now _ _ c.in-len1-up.len_at_least (omega arith))

pub statement-returns-in-1-position : goal.statement-returns-in-1-position
statement-returns-in-1-position t c =
    let v = c.in-Loop in
    body_found c.args.self.now continuing_view loop loop_closing (statement_view c.args.statement.now) v.attributes v.body v.continuing
    (ap statement_view v.is ∙ view_loop v.attributes v.body v.continuing)
    c.args.position.now _ c.closed_body.result
    (c.closed_body.ensures (closing_list continuing_view v.body v.continuing) (ap (map outline_view) c.deref.ensures.value ∙ c.in_ok-nodes-in-Loop.ensures)) (begins_by c.args.position.now 0 _ 1 c.in-1-position.len_at_least (omega arith) (search rules))

pub statement-returns-in-2-position : goal.statement-returns-in-2-position
statement-returns-in-2-position t c =
    let v = c.in-Loop in
    last_found c.args.self.now continuing_view loop loop_closing (statement_view c.args.statement.now) v.attributes v.body v.continuing (ap statement_view v.is ∙ view_loop v.attributes v.body v.continuing)
    c.args.position.now _ c.len.result c.in_ok-kept-in-2-position.kept c.in_ok-optional_continuing-in-2-position.field-0 c.and.new.self (omega (arith, c.len.ensures))
    (c.in_ok-kept-in-2-position.ensures.kept (closing_list continuing_view v.body v.continuing) (ap (map outline_view) c.deref-in-2-position.ensures.value ∙ c.in_ok-nodes-in-Loop.ensures))
    c.in_ok-optional_continuing-in-2-position.ensures c.and.ensures.over c.and.ensures.both (begins_by c.args.position.now 0 _ 2 c.in-2-position.len_at_least (omega arith) (search rules))

pub statement-returns-in-1-position-2 : goal.statement-returns-in-1-position-2
statement-returns-in-1-position-2 t c =
    let v = c.in-For in
    let first : Tree = optional (λ s. statement_tree (box_value s)) v.initializer in
    let others : Forest = forest_of (optional expression_tree v.condition ∷ optional (λ s. statement_tree (box_value s)) v.update ∷ compound_view v.body ∷ []) in
    onward c.args.self.now (statement_view c.args.statement.now) _ first 1 c.args.position.now _ c.optional_statement.result
    (ap statement_view v.is ∙ view_for v.attributes v.initializer v.condition v.update v.body) (λ choice. alone choice None _ first others) c.optional_statement.ensures
    (begins_by c.args.position.now 0 _ 1 c.in-1-position-2.len_at_least (omega arith) (search rules))

pub statement-returns-in-3-position-2 : goal.statement-returns-in-3-position-2
statement-returns-in-3-position-2 t c =
    let v = c.in-For in
    let third : Tree = optional (λ s. statement_tree (box_value s)) v.update in
    onward c.args.self.now (statement_view c.args.statement.now) _ third 3 c.args.position.now _ c.optional_statement-in-3-position-2.result
    (ap statement_view v.is ∙ view_for v.attributes v.initializer v.condition v.update v.body) (λ choice. alone choice None _ third (before (compound_view v.body) end)) c.optional_statement-in-3-position-2.ensures
    (begins_by c.args.position.now 0 _ 3 c.in-3-position-2.len_at_least (omega arith) (search rules))

pub statement-returns-in-4 : goal.statement-returns-in-4
statement-returns-in-4 t c =
    let v = c.in-For in
    onward c.args.self.now (statement_view c.args.statement.now) _ (compound_view v.body) 4 c.args.position.now _ c.compound-in-4.result
    (ap statement_view v.is ∙ view_for v.attributes v.initializer v.condition v.update v.body) (λ choice. refl) c.compound-in-4.ensures (begins_by c.args.position.now 0 _ 4 c.in-4.len_at_least (omega arith) (search rules))

pub statement-returns-in-2-position-3 : goal.statement-returns-in-2-position-3
statement-returns-in-2-position-3 t c =
    let v = c.in-While in
    onward c.args.self.now (statement_view c.args.statement.now) _ (compound_view v.body) 2 c.args.position.now _ c.compound-in-2-position-3.result
    (ap statement_view v.is ∙ view_while v.attributes v.condition v.body) (λ choice. refl) c.compound-in-2-position-3.ensures (begins_by c.args.position.now 0 _ 2 c.in-2-position-3.len_at_least (omega arith) (search rules))

pub statements-returns-then-number-len : goal.statements-returns-then-number-len
statements-returns-then-number-len t c =
    no_element_found c.args.self.now statement_tree statements_kind (λ choice. record { entered = refl; plain = refl; list = refl; closed = refl; compound = refl }) c.args.nodes.now.items _ c.args.position.now _ c.none.result
    c.if-number-len.true (omega (arith, c.len.ensures)) c.none.ensures (begins_with c.args.position.now 0 (length c.args.position.now) c.in-len1-up.len_at_least (omega arith))

pub statements-returns-in_ok-statement-in-len1-up : goal.statements-returns-in_ok-statement-in-len1-up
statements-returns-in_ok-statement-in-len1-up t c =
    let x = c.index.result.now in
    element_found c.args.self.now statement_tree statements_kind (λ choice. record { entered = refl; plain = refl; list = refl; closed = refl; compound = refl }) c.args.nodes.now.items x (statement_view x.node) _ c.args.position.now _
    c.in_ok-kept-in-len1-up.kept c.in_ok-statement-in-len1-up.field-0 c.and.new.self (omega (arith, c.if-number-len.false, c.len.ensures)) c.index.ensures
    (λ choice. through_span choice None _ (at statement_node x.span.start x.span.end) (statement_view x.node) refl refl)
    c.in_ok-kept-in-len1-up.ensures c.in_ok-statement-in-len1-up.ensures c.and.ensures.over c.and.ensures.both (begins_with c.args.position.now _ _ c.in-len1-up.len_at_least (omega arith))
