use Rattle.std.proofs.Common.{[], ◌∷◌, map, cond, Ok, Err, Option, Box, Global, false, arith, sym, subst, refl}
use Rattle.std.specs.Box.{box_value}
use Rattle.wesl_cond_chains.specs.Judging.{Checks, IsClear, RefusesIn}
use Rattle.wesl_cond_chains.specs.Lists.{alone}
use Rattle.wesl_cond_chains.specs.Nodes.{optional_forest, replies}
use Rattle.wesl_tree_syntax.specs.Tree.{Tree, kind, clauses, before, end, forest_of, list}
use Rattle.wesl_tree_syntax.specs.View.{clause_view, compound_view, continuing_view, else_if_view, else_view, if_view, listed, optional, statement_tree, statement_view}
use Rattle.wesl_tree_syntax.specs.declared.span.Spanned.{Spanned}
use Rattle.wesl_tree_syntax.specs.declared.statement.Statement.{Statement}
use Rattle.wesl_cond_unit.proofs.Checked.{first_of_three, statement_checked, if_clause_checked, else_if_checked, else_checked, optional_checked, clause_checked, clauses_checked, compound_checked, if_checked, switch_checked, loop_checked, for_checked, while_checked, compound_body, compound_refused, listed_checked, three_in_turn}
use Rattle.wesl_cond_unit.proofs.Leaves.{no_list}
use Rattle.wesl_cond_unit.proofs.Looped.{loop_tree, loop_in_turn, block_refused, block_checked}
use Rattle.wesl_cond_unit.proofs.Standing.{stay, clear_leaf, list_refused}
use Rattle.wesl_cond_unit.proofs.Walked.{walks_in, walks_past, left_at_start, left_next, left_refused, left_clear, listed_next, listed_refused, listed_clear}
use Rattle.wesl_cond_unit.proofs.checks.+checking.Goals as goal
use Rattle.wesl_cond_unit.proofs.checks.+checking.Goals.{check_statements-then-stays+in-Ok, check_statements-else-stays, check_clauses-then-stays+in-Ok-check_body, check_clauses-else-stays}

-- a statement in its box, if there is one
abbrev in_place : Option (Box (Spanned Statement) Global) → Tree
in_place = optional (λ s. statement_tree (box_value s))

pub check_statement-returns-in-Compound : goal.check_statement-returns-in-Compound
check_statement-returns-in-Compound t c =
    let names = c.args.names.now in
    let reply = replies names c.args.features.now in
    compound_checked reply names c.check_body.result c.args.statement.now c.in-Compound.body c.in-Compound.is c.check_body.ensures

pub check_statement-returns-in-If : goal.check_statement-returns-in-If
check_statement-returns-in-If t c =
    let names = c.args.names.now in
    let reply = replies names c.args.features.now in
    if_checked reply names c.first_refusal.result c.args.statement.now _ c.in-If.if_clause c.in-If.else_if_clauses c.in-If.else_clause c.in-If.is (subst (Checks names reply (forest_of (if_view c.in-If.if_clause ∷ listed else_if_view list c.in-If.else_if_clauses ∷ optional else_view c.in-If.else_clause ∷ []))) (sym (first_of_three _ _ _ _ c.first_refusal.ensures)) (three_in_turn reply names (if_view c.in-If.if_clause) (listed else_if_view list c.in-If.else_if_clauses) (optional else_view c.in-If.else_clause) c.check_body-first.result c.check_else_ifs-others.result c.check_else-last.result (if_clause_checked reply names c.check_body-first.result c.in-If.if_clause c.check_body-first.ensures) (listed_checked reply names c.in-If.else_if_clauses c.check_else_ifs-others.result c.check_else_ifs-others.ensures) c.check_else-last.ensures))

pub check_statement-returns-in-Switch : goal.check_statement-returns-in-Switch
check_statement-returns-in-Switch t c =
    let names = c.args.names.now in
    let reply = replies names c.args.features.now in
    switch_checked reply names c.check_clauses.result c.args.statement.now _ _ _ c.in-Switch.clauses c.in-Switch.is c.check_clauses.ensures

pub check_statement-returns-in-Loop : goal.check_statement-returns-in-Loop
check_statement-returns-in-Loop t c =
    let names = c.args.names.now in
    let reply = replies names c.args.features.now in
    loop_checked reply names c.first_refusal-in-Loop.result c.args.statement.now _ c.in-Loop.body c.in-Loop.continuing c.in-Loop.is (λ a. subst (Checks names reply (before (loop_tree reply names a c.in-Loop.body c.in-Loop.continuing) end)) (sym (first_of_three _ _ _ _ c.first_refusal-in-Loop.ensures)) (loop_in_turn reply names c.in-Loop.body c.in-Loop.continuing c.check_both-listed.result c.check_statements-inside.result c.check_last-last.result c.closes-stays.result c.check_both-listed.ensures c.check_statements-inside.ensures c.closes-stays.ensures c.check_last-last.ensures a))

pub check_statement-returns-in-For : goal.check_statement-returns-in-For
check_statement-returns-in-For t c =
    let names = c.args.names.now in
    let reply = replies names c.args.features.now in
    for_checked reply names c.first_refusal-in-For.result c.args.statement.now _ c.in-For.initializer _ c.in-For.update c.in-For.body c.in-For.is (subst (Checks names reply (forest_of (in_place c.in-For.initializer ∷ in_place c.in-For.update ∷ compound_view c.in-For.body ∷ []))) (sym (first_of_three _ _ _ _ c.first_refusal-in-For.ensures)) (three_in_turn reply names (in_place c.in-For.initializer) (in_place c.in-For.update) (compound_view c.in-For.body) c.check_optional-before.result c.check_optional-after.result c.check_body-inside.result c.check_optional-before.ensures c.check_optional-after.ensures c.check_body-inside.ensures))

pub check_statement-returns-in-While : goal.check_statement-returns-in-While
check_statement-returns-in-While t c =
    let names = c.args.names.now in
    let reply = replies names c.args.features.now in
    while_checked reply names c.check_body-in-While.result c.args.statement.now _ _ c.in-While.body c.in-While.is c.check_body-in-While.ensures

pub check_body-returns-in-Ok : goal.check_body-returns-in-Ok
check_body-returns-in-Ok t c =
    let names = c.args.names.now in
    let reply = replies names c.args.features.now in
    compound_body reply names c.check_statements.result c.args.body.now c.in-Ok.ensures c.check_statements.ensures

pub check_body-returns-in-Err : goal.check_body-returns-in-Err
check_body-returns-in-Err t c =
    let names = c.args.names.now in
    let reply = replies names c.args.features.now in
    compound_refused reply names c.args.body.now c.in-Err.fault c.in-Err.ensures

pub check_else-returns-in-Some : goal.check_else-returns-in-Some
check_else-returns-in-Some t c =
    let names = c.args.names.now in
    let reply = replies names c.args.features.now in
    else_checked reply names c.check_body.result c.args.clause.now c.in-Some.clause c.in-Some.is c.check_body.ensures

pub check_optional-returns-in-Some : goal.check_optional-returns-in-Some
check_optional-returns-in-Some t c =
    let names = c.args.names.now in
    let reply = replies names c.args.features.now in
    optional_checked reply names c.check_statement.result c.args.node.now c.in-Some.node c.in-Some.is (subst (λ n. Checks names reply (before (statement_view n.node) end) c.check_statement.result) c.deref.ensures c.check_statement.ensures)

pub check_clauses-returns-in-Err : goal.check_clauses-returns-in-Err
check_clauses-returns-in-Err t c =
    let names = c.args.names.now in
    let reply = replies names c.args.features.now in
    list_refused reply names (kind clauses) (forest_of (map clause_view c.args.clauses.now.items)) c.in-Err.fault refl c.in-Err.ensures

pub check_statements-loop-node-preserved : goal.check_statements-loop-node-preserved
check_statements-loop-node-preserved t c =
    let names = c.args.names.now in
    let reply = replies names c.args.features.now in
    let l = c.loop-node in
    let x = c.node-item.result in
    elim c.if-stays.branch [
      | check_statements-then-stays+in-Ok w ↦ (left_next reply statement_tree names c.deref-node-items.result.now l.node-index l.chain.kept l.chain.decided c.stays.new.chain.kept c.stays.new.chain.decided x (tt {0}) (omega arith) c.node-item.is l.invariant (walks_in reply names l.chain.kept l.chain.decided c.stays.new.chain.kept c.stays.new.chain.decided c.stays.result (statement_tree x) (Ok (tt {0})) w.if-stays.true (c.stays.ensures false) (statement_checked reply names {A = Unit {0}} (Ok (tt {0})) x w.in-Ok.ensures)))
      | check_statements-else-stays w ↦ (left_next reply statement_tree names c.deref-node-items.result.now l.node-index l.chain.kept l.chain.decided c.stays.new.chain.kept c.stays.new.chain.decided x (tt {0}) (omega arith) c.node-item.is l.invariant (walks_past reply names l.chain.kept l.chain.decided c.stays.new.chain.kept c.stays.new.chain.decided c.stays.result (statement_tree x) (tt {0}) w.if-stays.false (c.stays.ensures false)))
    ]

pub check_statements-returns-in-Err : goal.check_statements-returns-in-Err
check_statements-returns-in-Err t c =
    let names = c.args.names.now in
    let reply = replies names c.args.features.now in
    let l = c.loop-node in
    let x = c.node-item.result in
    subst (λ xs. RefusesIn names reply (alone (stay reply) (forest_of (map statement_tree xs))) c.in-Err.fault) c.deref-node-items.ensures.value
    (left_refused reply statement_tree (Unit {0}) names c.deref-node-items.result.now l.node-index l.chain.kept l.chain.decided c.stays.new.chain.kept c.stays.new.chain.decided x c.in-Err.fault (omega arith) c.node-item.is l.invariant (walks_in reply {A = Unit {0}} names l.chain.kept l.chain.decided c.stays.new.chain.kept c.stays.new.chain.decided c.stays.result (statement_tree x) (Err c.in-Err.fault) c.if-stays.true (c.stays.ensures false) (statement_checked reply names {A = Unit {0}} (Err c.in-Err.fault) x c.in-Err.ensures)))

pub check_statements-returns : goal.check_statements-returns
check_statements-returns t c =
    let names = c.args.names.now in
    let reply = replies names c.args.features.now in
    let l = c.loop-node in
    subst (λ xs. IsClear reply (alone (stay reply) (forest_of (map statement_tree xs)))) c.deref-node-items.ensures.value (left_clear reply statement_tree c.deref-node-items.result.now l.node-index l.chain.kept l.chain.decided (omega arith) l.invariant)

pub check_statements-loop-node-init : goal.check_statements-loop-node-init
check_statements-loop-node-init t c =
    let names = c.args.names.now in
    let reply = replies names c.args.features.now in
    left_at_start reply statement_tree c.deref-node-items.result.now _ _ c.new-chain.ensures.kept c.new-chain.ensures.decided

pub check_else_ifs-loop-clause-preserved : goal.check_else_ifs-loop-clause-preserved
check_else_ifs-loop-clause-preserved t c =
    let names = c.args.names.now in
    let reply = replies names c.args.features.now in
    listed_next reply else_if_view c.deref-clause-items.result.now c.loop-clause.clause-index c.clause-item.result (omega arith) c.clause-item.is c.loop-clause.invariant (else_if_checked reply names {A = Unit {0}} (Ok (tt {0})) c.clause-item.result c.in-Ok.ensures)

pub check_else_ifs-returns-in-Err : goal.check_else_ifs-returns-in-Err
check_else_ifs-returns-in-Err t c =
    let names = c.args.names.now in
    let reply = replies names c.args.features.now in
    subst (λ xs. RefusesIn names reply (forest_of (map else_if_view xs)) c.in-Err.fault) c.deref-clause-items.ensures.value (listed_refused reply else_if_view names c.deref-clause-items.result.now c.loop-clause.clause-index c.clause-item.result c.in-Err.fault (omega arith) c.clause-item.is c.loop-clause.invariant (else_if_checked reply names {A = Unit {0}} (Err c.in-Err.fault) c.clause-item.result c.in-Err.ensures))

pub check_else_ifs-returns : goal.check_else_ifs-returns
check_else_ifs-returns t c =
    let names = c.args.names.now in
    let reply = replies names c.args.features.now in
    subst (λ xs. IsClear reply (forest_of (map else_if_view xs))) c.deref-clause-items.ensures.value (listed_clear reply else_if_view c.deref-clause-items.result.now c.loop-clause.clause-index (omega arith) c.loop-clause.invariant)

pub check_clauses-loop-clause-preserved : goal.check_clauses-loop-clause-preserved
check_clauses-loop-clause-preserved t c =
    let names = c.args.names.now in
    let reply = replies names c.args.features.now in
    let l = c.loop-clause in
    let x = c.clause-item.result in
    elim c.if-stays.branch [
      | check_clauses-then-stays+in-Ok-check_body w ↦ (left_next reply clause_view names c.deref-clause-items.result.now l.clause-index l.chain.kept l.chain.decided c.stays.new.chain.kept c.stays.new.chain.decided x (tt {0}) (omega arith) c.clause-item.is l.invariant (walks_in reply names l.chain.kept l.chain.decided c.stays.new.chain.kept c.stays.new.chain.decided c.stays.result (clause_view x) (Ok (tt {0})) w.if-stays.true (c.stays.ensures false) (clause_checked reply names {A = Unit {0}} (Ok (tt {0})) x w.in-Ok-check_body.ensures)))
      | check_clauses-else-stays w ↦ (left_next reply clause_view names c.deref-clause-items.result.now l.clause-index l.chain.kept l.chain.decided c.stays.new.chain.kept c.stays.new.chain.decided x (tt {0}) (omega arith) c.clause-item.is l.invariant (walks_past reply names l.chain.kept l.chain.decided c.stays.new.chain.kept c.stays.new.chain.decided c.stays.result (clause_view x) (tt {0}) w.if-stays.false (c.stays.ensures false)))
    ]

pub check_clauses-returns-in-Err-check_body : goal.check_clauses-returns-in-Err-check_body
check_clauses-returns-in-Err-check_body t c =
    let names = c.args.names.now in
    let reply = replies names c.args.features.now in
    let l = c.loop-clause in
    let x = c.clause-item.result in
    clauses_checked reply names {A = Unit {0}} (Err c.in-Err-check_body.fault) c.args.clauses.now.items c.in-Ok.ensures (subst (λ xs. RefusesIn names reply (alone (stay reply) (forest_of (map clause_view xs))) c.in-Err-check_body.fault) c.deref-clause-items.ensures.value
    (left_refused reply clause_view (Unit {0}) names c.deref-clause-items.result.now l.clause-index l.chain.kept l.chain.decided c.stays.new.chain.kept c.stays.new.chain.decided x c.in-Err-check_body.fault (omega arith) c.clause-item.is l.invariant (walks_in reply {A = Unit {0}} names l.chain.kept l.chain.decided c.stays.new.chain.kept c.stays.new.chain.decided c.stays.result (clause_view x) (Err c.in-Err-check_body.fault) c.if-stays.true (c.stays.ensures false) (clause_checked reply names {A = Unit {0}} (Err c.in-Err-check_body.fault) x c.in-Err-check_body.ensures))))

pub check_clauses-returns : goal.check_clauses-returns
check_clauses-returns t c =
    let names = c.args.names.now in
    let reply = replies names c.args.features.now in
    let l = c.loop-clause in
    clauses_checked reply names {A = Unit {0}} (Ok (tt {0})) c.args.clauses.now.items c.in-Ok.ensures (subst (λ xs. IsClear reply (alone (stay reply) (forest_of (map clause_view xs)))) c.deref-clause-items.ensures.value (left_clear reply clause_view c.deref-clause-items.result.now l.clause-index l.chain.kept l.chain.decided (omega arith) l.invariant))

pub check_clauses-loop-clause-init : goal.check_clauses-loop-clause-init
check_clauses-loop-clause-init t c =
    let names = c.args.names.now in
    let reply = replies names c.args.features.now in
    left_at_start reply clause_view c.deref-clause-items.result.now _ _ c.new-chain.ensures.kept c.new-chain.ensures.decided

pub check_last-returns-in-Ok : goal.check_last-returns-in-Ok
check_last-returns-in-Ok t c =
    let names = c.args.names.now in
    let reply = replies names c.args.features.now in
    let b = c.in-Some.block in
    let r = c.check_statements.result in
    subst (λ o. Checks names reply (cond c.args.stays (optional_forest continuing_view o) end) r) (sym c.in-Some.is)
    (subst (λ s. Checks names reply (cond s (before (continuing_view b) end) end) r) (sym c.if-stays.true) (block_checked reply names b r c.in-Ok.ensures c.check_statements.ensures))

pub check_last-returns-in-Err : goal.check_last-returns-in-Err
check_last-returns-in-Err t c =
    let names = c.args.names.now in
    let reply = replies names c.args.features.now in
    let b = c.in-Some.block in
    let e = c.in-Err.fault in
    subst (λ o. RefusesIn names reply (cond c.args.stays (optional_forest continuing_view o) end) e) (sym c.in-Some.is)
    (subst (λ s. RefusesIn names reply (cond s (before (continuing_view b) end) end) e) (sym c.if-stays.true) (block_refused reply names b e c.in-Err.ensures))

pub check_statement-returns-in_default : goal.check_statement-returns-in_default
check_statement-returns-in_default t c =
    let s = c.args.statement.now in
    let n = c.in_default in
    clear_leaf (replies c.args.names.now c.args.features.now) (statement_view s).label (statement_view s).children (no_list s n.not-Compound n.not-If n.not-Switch n.not-Loop n.not-For n.not-While)
