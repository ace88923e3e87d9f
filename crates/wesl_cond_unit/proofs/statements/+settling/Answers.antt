use Rattle.std.proofs.Common.{◌≢◌, ◌++◌, map, refl, rules, sym, ap, ◌∙◌, arith, false, true, get_or-set_other}
use Rattle.std.proofs.lemmas.List.{length-set}
use Rattle.wesl_cond_chains.specs.Chains.{residual_list}
use Rattle.wesl_cond_chains.specs.Lists.{alone, element, elements}
use Rattle.wesl_cond_chains.specs.Nodes.{answers, optional_forest}
use Rattle.wesl_cond_chains.specs.Residual.{residual_tree}
use Rattle.wesl_tree_syntax.specs.Tree.{forest_of}
use Rattle.wesl_tree_syntax.specs.View.{break_if_view, clause_view, continuing_view, else_if_view, else_view, statement_tree, statement_view}
use Rattle.wesl_tree_syntax.specs.declared.statement.CompoundStatement.{out-CompoundStatement}
use Rattle.wesl_tree_syntax.specs.declared.statement.ContinuingStatement.{out-ContinuingStatement}
use Rattle.wesl_tree_syntax.specs.declared.statement.Statement.{the_lemmas}
use Rattle.wesl_cond_unit.proofs.Fronts.{changed}
use Rattle.wesl_cond_unit.proofs.Leaves.{leaf_left, no_list}
use Rattle.wesl_cond_unit.proofs.Settled.{block_settled, clause_settled, compound_settled, else_if_settled, compound_in, else_settled, for_in, if_clause_settled, if_in, loop_in, node_settled, optional_settled, switch_in, while_in}
use Rattle.wesl_cond_unit.proofs.statements.+settling.Goals as goal
use Rattle.wesl_cond_chains.proofs.Fronts.{front_is_all, lent_back, map_in_turn}

pub settle_statements-returns : goal.settle_statements-returns
settle_statements-returns t c =
    let left = residual_tree (answers c.args.names.now c.args.features.now) in
    sym (front_is_all statement_tree (λ x. left (statement_tree x)) c.loop-node.nodes c.loop-node.node-index (omega arith)) ∙ c.loop-node.invariant.1 ∙ map_in_turn statement_tree left c.args.nodes.now

pub settle_else_ifs-returns : goal.settle_else_ifs-returns
settle_else_ifs-returns t c =
    let left = residual_tree (answers c.args.names.now c.args.features.now) in
    sym (front_is_all else_if_view (λ x. left (else_if_view x)) c.loop-clause.clauses c.loop-clause.clause-index (omega arith)) ∙ c.loop-clause.invariant.1 ∙ map_in_turn else_if_view left c.args.clauses.now

pub settle_clauses-returns : goal.settle_clauses-returns
settle_clauses-returns t c =
    let left = residual_tree (answers c.args.names.now c.args.features.now) in
    sym (front_is_all clause_view (λ x. left (clause_view x)) c.loop-clause.clauses c.loop-clause.clause-index (omega arith)) ∙ c.loop-clause.invariant.1 ∙ map_in_turn clause_view left c.args.clauses.now

pub settle_statements-loop-node-preserved : goal.settle_statements-loop-node-preserved
settle_statements-loop-node-preserved t c =
    let known = answers c.args.names.now c.args.features.now in
    let left = residual_tree known in
    let l = c.loop-node in (
      (
        length-set l.nodes l.node-index _ ∙ l.invariant.0.0,
        λ k d h. let ne : k ≢ l.node-index = omega arith in rw get_or-set_other (l.invariant.0.1 k d (omega arith)),
      ),
      changed statement_tree (λ x. left (statement_tree x)) l.nodes l.node-index c.node-item.result _ _ (omega arith) (node_settled known _ _ refl c.settle_statement.ensures) l.invariant.1,
    )

pub settle_body-returns : goal.settle_body-returns
settle_body-returns t c =
    let known = answers c.args.names.now c.args.features.now in
    let ys = c.settle_statements.new.nodes in
    let items = (out-CompoundStatement c.args.body.now).statements.items in
    compound_settled known c.args.body.now ys c.settle_list.new.nodes
    (c.settle_statements.ensures ∙ ap (λ r. map (residual_tree known) (map statement_tree r)) c.deref_mut.ensures.value)
    (c.settle_list.ensures ∙ ap (λ r. alone (residual_list element known) (forest_of (map statement_tree r))) (lent_back _ ys items (c.settle_statements.auto.nodes ∙ c.deref_mut.ensures.len)))

pub settle_statement-returns-in-If : goal.settle_statement-returns-in-If
settle_statement-returns-in-If t c =
    let known = answers c.args.names.now c.args.features.now in
    let h = c.in-If in
    let ys = c.settle_else_ifs.new.clauses in
    if_in known c.args.statement.now h.attributes _ h.if_clause _ _ h.else_if_clauses _ ys h.else_clause _ c.settle_else.new.clause h.is (search (rules, the_lemmas)) h.if_clause-is h.else_if_clauses-is h.else_clause-is (if_clause_settled known _ c.settle_body-in-If.new.body c.settle_body-in-If.ensures)
    (ap (map else_if_view) (lent_back _ ys _ (c.settle_else_ifs.auto.clauses ∙ c.deref_mut.ensures.len)) ∙ c.settle_else_ifs.ensures ∙ ap (λ r. map (residual_tree known) (map else_if_view r)) c.deref_mut.ensures.value)
    c.settle_else.ensures

pub settle_statement-returns-in-Switch : goal.settle_statement-returns-in-Switch
settle_statement-returns-in-Switch t c =
    let known = answers c.args.names.now c.args.features.now in
    let h = c.in-Switch in
    let us = c.settle_clauses.new.clauses in
    switch_in known c.args.statement.now _ h.attributes h.expression h.body_attributes h.clauses _ c.settle_list.new.nodes us h.is (search (rules, the_lemmas)) h.clauses-is
    (c.settle_clauses.ensures ∙ ap (λ r. map (residual_tree known) (map clause_view r)) c.deref_mut-in-Switch.ensures.value)
    (c.settle_list.ensures ∙ ap (λ r. alone (residual_list element known) (forest_of (map clause_view r))) (lent_back _ us _ (c.settle_clauses.auto.clauses ∙ c.deref_mut-in-Switch.ensures.len)))

pub settle_statement-returns-in-Loop : goal.settle_statement-returns-in-Loop
settle_statement-returns-in-Loop t c =
    let known = answers c.args.names.now c.args.features.now in
    let h = c.in-Loop in
    let ys = c.settle_statements.new.nodes in
    loop_in known c.args.statement.now h.attributes _ h.body _ ys c.settle_both.new.nodes h.continuing _ c.settle_continuing.new.continuing c.settle_both.new.last h.is (search (rules, the_lemmas)) h.body-is h.continuing-is
    (c.settle_statements.ensures ∙ ap (λ r. map (residual_tree known) (map statement_tree r)) c.deref_mut-in-Loop.ensures.value)
    c.settle_continuing.ensures
    (c.settle_both.ensures ∙ ap (λ r. residual_list element known (elements false (forest_of (map statement_tree r)) ++ elements true (optional_forest continuing_view c.settle_continuing.new.continuing))) (lent_back _ ys _ (c.settle_statements.auto.nodes ∙ c.deref_mut-in-Loop.ensures.len)))

pub settle_else_ifs-loop-clause-preserved : goal.settle_else_ifs-loop-clause-preserved
settle_else_ifs-loop-clause-preserved t c =
    let known = answers c.args.names.now c.args.features.now in
    let left = residual_tree known in
    let l = c.loop-clause in (
      (
        length-set l.clauses l.clause-index _ ∙ l.invariant.0.0,
        λ k d h. let ne : k ≢ l.clause-index = omega arith in rw get_or-set_other (l.invariant.0.1 k d (omega arith)),
      ),
      changed else_if_view (λ x. left (else_if_view x)) l.clauses l.clause-index c.clause-item.result _ _ (omega arith) (else_if_settled known _ c.settle_body.new.body c.settle_body.ensures) l.invariant.1,
    )

pub settle_clauses-loop-clause-preserved : goal.settle_clauses-loop-clause-preserved
settle_clauses-loop-clause-preserved t c =
    let known = answers c.args.names.now c.args.features.now in
    let left = residual_tree known in
    let l = c.loop-clause in (
      (
        length-set l.clauses l.clause-index _ ∙ l.invariant.0.0,
        λ k d h. let ne : k ≢ l.clause-index = omega arith in rw get_or-set_other (l.invariant.0.1 k d (omega arith)),
      ),
      changed clause_view (λ x. left (clause_view x)) l.clauses l.clause-index c.clause-item.result _ _ (omega arith) (clause_settled known _ c.settle_body.new.body c.settle_body.ensures) l.invariant.1,
    )

pub settle_continuing-returns-in-Some : goal.settle_continuing-returns-in-Some
settle_continuing-returns-in-Some t c =
    let known = answers c.args.names.now c.args.features.now in
    let ys = c.settle_statements.new.nodes in
    let block = out-ContinuingStatement c.in-Some.block in
    let items = (out-CompoundStatement block.body).statements.items in
    optional_settled known continuing_view c.args.continuing.now c.in-Some.block _ c.in-Some.is
    (block_settled known c.in-Some.block ys c.settle_both.new.nodes c.settle_both.new.last
    (c.settle_statements.ensures ∙ ap (λ r. map (residual_tree known) (map statement_tree r)) c.deref_mut.ensures.value)
    (c.settle_both.ensures ∙ ap (λ r. residual_list element known (elements false (forest_of (map statement_tree r)) ++ elements true (optional_forest break_if_view block.break_if))) (lent_back _ ys items (c.settle_statements.auto.nodes ∙ c.deref_mut.ensures.len))))

pub settle_else-returns-in-Some : goal.settle_else-returns-in-Some
settle_else-returns-in-Some t c =
    let known = answers c.args.names.now c.args.features.now in
    optional_settled known else_view c.args.clause.now c.in-Some.clause _ c.in-Some.is (else_settled known c.in-Some.clause c.settle_body.new.body c.settle_body.ensures)

pub settle_statement-returns-in-Compound : goal.settle_statement-returns-in-Compound
settle_statement-returns-in-Compound t c =
    let known = answers c.args.names.now c.args.features.now in
    let h = c.in-Compound in
    compound_in known c.args.statement.now _ h.body _ c.settle_body.new.body h.is (search (rules, the_lemmas)) h.body-is c.settle_body.ensures

pub settle_statement-returns-in-For : goal.settle_statement-returns-in-For
settle_statement-returns-in-For t c =
    let known = answers c.args.names.now c.args.features.now in
    let h = c.in-For in
    for_in known c.args.statement.now _ h.attributes h.initializer _ c.settle_optional.new.node h.condition h.update _ c.settle_optional-in-For.new.node h.body _ c.settle_body-in-For.new.body h.is (search (rules, the_lemmas)) h.initializer-is h.update-is h.body-is c.settle_optional.ensures c.settle_optional-in-For.ensures c.settle_body-in-For.ensures

pub settle_statement-returns-in-While : goal.settle_statement-returns-in-While
settle_statement-returns-in-While t c =
    let known = answers c.args.names.now c.args.features.now in
    let h = c.in-While in
    while_in known c.args.statement.now _ h.attributes h.condition h.body _ c.settle_body-in-While.new.body h.is (search (rules, the_lemmas)) h.body-is c.settle_body-in-While.ensures

pub settle_statement-returns-in_default : goal.settle_statement-returns-in_default
settle_statement-returns-in_default t c =
    let s = c.args.statement.now in
    let n = c.in_default in
    leaf_left (answers c.args.names.now c.args.features.now) (statement_view s) (no_list s n.not-Compound n.not-If n.not-Switch n.not-Loop n.not-For n.not-While)

pub settle_statements-loop-node-init : goal.settle_statements-loop-node-init
settle_statements-loop-node-init t c = ((refl, λ k d h. refl), refl)

pub settle_else_ifs-loop-clause-init : goal.settle_else_ifs-loop-clause-init
settle_else_ifs-loop-clause-init t c = ((refl, λ k d h. refl), refl)

pub settle_clauses-loop-clause-init : goal.settle_clauses-loop-clause-init
settle_clauses-loop-clause-init t c = ((refl, λ k d h. refl), refl)
