use Rattle.std.proofs.Common.{◌++◌, map, arith, false, true, subst}
use Rattle.wesl_cond_chains.specs.Lists.{alone, elements}
use Rattle.wesl_cond_chains.specs.Nodes.{optional_forest, replies}
use Rattle.std.specs.Box.{box_value}
use Rattle.wesl_tree_syntax.specs.Tree.{before, end, forest_of}
use Rattle.wesl_tree_syntax.specs.View.{break_if_view, clause_view, continuing_view, else_if_view, else_view, statement_tree, statement_view}
use Rattle.wesl_tree_syntax.specs.declared.statement.CompoundStatement.{out-CompoundStatement}
use Rattle.wesl_tree_syntax.specs.declared.statement.ContinuingStatement.{out-ContinuingStatement}
use Rattle.wesl_cond_unit.proofs.Leaves.{no_list}
use Rattle.wesl_cond_faults.proofs.Adding.{clear_if, refused_some, some_if}
use Rattle.wesl_cond_faults.proofs.Alike.{clear_told}
use Rattle.wesl_cond_faults.proofs.Listing.{stay}
use Rattle.wesl_cond_faults.proofs.Loops.{block_refused, block_told, last_absent, last_gone, last_told, loop_refused, loop_told}
use Rattle.wesl_cond_faults.proofs.Views.{absent_told, body_refused, body_told, clause_told, clauses_refused, clauses_told, compound_told, else_if_told, else_told, for_told, if_told, none_told, optional_told, statement_told, switch_told, while_told}
use Rattle.wesl_cond_faults.proofs.Walking.{left_at_start, left_in, left_none, left_past, listed_next, listed_none}
use Rattle.wesl_cond_faults.specs.Telling.{AddsAll}
use Rattle.wesl_cond_faults.proofs.statements.+telling.Goals as goal
use Rattle.wesl_cond_faults.proofs.statements.+telling.Goals.{tell_statements-then-stays, tell_statements-else-stays, tell_clauses-then-stays, tell_clauses-else-stays}

pub tell_statement-returns-in-Compound : goal.tell_statement-returns-in-Compound
tell_statement-returns-in-Compound t c =
    let names = c.args.names.now in
    let reply = replies names c.args.features.now in
    compound_told names reply c.args.told.now c.tell_body.new.told c.args.statement.now c.in-Compound.body c.in-Compound.is c.tell_body.ensures

pub tell_statement-returns-in-If : goal.tell_statement-returns-in-If
tell_statement-returns-in-If t c =
    let names = c.args.names.now in
    let reply = replies names c.args.features.now in
    if_told names reply c.args.told.now c.tell_body-in-If.new.told c.tell_else_ifs.new.told c.tell_else.new.told c.args.statement.now _ c.in-If.if_clause c.in-If.else_if_clauses c.in-If.else_clause c.in-If.is c.tell_body-in-If.ensures c.tell_else_ifs.ensures c.tell_else.ensures

pub tell_statement-returns-in-Switch : goal.tell_statement-returns-in-Switch
tell_statement-returns-in-Switch t c =
    let names = c.args.names.now in
    let reply = replies names c.args.features.now in
    switch_told names reply c.args.told.now c.tell_clauses.new.told c.args.statement.now _ _ _ c.in-Switch.clauses c.in-Switch.is c.tell_clauses.ensures

pub tell_statement-returns-then-is_clear : goal.tell_statement-returns-then-is_clear
tell_statement-returns-then-is_clear t c =
    let names = c.args.names.now in
    let reply = replies names c.args.features.now in
    loop_told names reply c.args.statement.now _ c.in-Loop.body c.in-Loop.continuing c.in-Loop.is _ c.args.told.now c.tell_statements.new.told c.tell_last.new.told (clear_if names reply (elements false (forest_of (map statement_tree (out-CompoundStatement c.in-Loop.body).statements.items)) ++ elements true (optional_forest continuing_view c.in-Loop.continuing)) c.check_both.result c.is_clear.result c.check_both.ensures c.is_clear.ensures c.if-is_clear.true) c.tell_statements.ensures c.closes-stays.ensures c.tell_last.ensures

pub tell_statement-returns-else-is_clear : goal.tell_statement-returns-else-is_clear
tell_statement-returns-else-is_clear t c =
    let names = c.args.names.now in
    let reply = replies names c.args.features.now in
    loop_refused names reply c.args.statement.now _ c.in-Loop.body c.in-Loop.continuing c.in-Loop.is c.args.told.now c.tell_both.new.told (some_if names reply (elements false (forest_of (map statement_tree (out-CompoundStatement c.in-Loop.body).statements.items)) ++ elements true (optional_forest continuing_view c.in-Loop.continuing)) c.check_both.result c.is_clear.result c.check_both.ensures c.is_clear.ensures c.if-is_clear.false) c.tell_both.ensures

pub tell_statement-returns-in-For : goal.tell_statement-returns-in-For
tell_statement-returns-in-For t c =
    let names = c.args.names.now in
    let reply = replies names c.args.features.now in
    for_told names reply c.args.told.now c.tell_optional.new.told c.tell_optional-in-For.new.told c.tell_body-in-For.new.told c.args.statement.now _ c.in-For.initializer _ c.in-For.update c.in-For.body c.in-For.is c.tell_optional.ensures c.tell_optional-in-For.ensures c.tell_body-in-For.ensures

pub tell_statement-returns-in-While : goal.tell_statement-returns-in-While
tell_statement-returns-in-While t c =
    let names = c.args.names.now in
    let reply = replies names c.args.features.now in
    while_told names reply c.args.told.now c.tell_body-in-While.new.told c.args.statement.now _ _ c.in-While.body c.in-While.is c.tell_body-in-While.ensures

pub tell_statement-returns-in_default : goal.tell_statement-returns-in_default
tell_statement-returns-in_default t c =
    let s = c.args.statement.now in
    let n = c.in_default in
    none_told c.args.names.now (replies c.args.names.now c.args.features.now) c.args.told.now (statement_view s) (no_list s n.not-Compound n.not-If n.not-Switch n.not-Loop n.not-For n.not-While)

pub tell_statements-loop-node-init : goal.tell_statements-loop-node-init
tell_statements-loop-node-init t c =
    let names = c.args.names.now in
    left_at_start names (replies names c.args.features.now) statement_tree c.deref-node-items.result.now c.args.told.now _ _ c.new-chain.ensures.kept c.new-chain.ensures.decided

pub tell_statements-loop-node-preserved : goal.tell_statements-loop-node-preserved
tell_statements-loop-node-preserved t c =
    let names = c.args.names.now in
    let reply = replies names c.args.features.now in
    let l = c.loop-node in
    let x = c.node-item.result in
    let xs = c.deref-node-items.result.now in
    let k = c.stays.new.chain.kept in
    let d = c.stays.new.chain.decided in
    elim c.if-stays.branch [
      | tell_statements-then-stays w ↦ rw w.told-is (left_in names reply statement_tree xs c.args.told.now l.node-index l.chain.kept l.chain.decided k d c.stays.result x l.told w.tell_statement.new.told (omega arith) c.node-item.is w.if-stays.true (c.stays.ensures false) (statement_told names reply l.told w.tell_statement.new.told x w.tell_statement.ensures) l.invariant)
      | tell_statements-else-stays w ↦ rw w.told-is (left_past names reply statement_tree xs c.args.told.now l.node-index l.chain.kept l.chain.decided k d c.stays.result x l.told (omega arith) c.node-item.is w.if-stays.false (c.stays.ensures false) l.invariant)
    ]

pub tell_statements-returns : goal.tell_statements-returns
tell_statements-returns t c =
    let names = c.args.names.now in
    let reply = replies names c.args.features.now in
    let l = c.loop-node in
    subst (λ xs. AddsAll names reply (alone (stay reply) (forest_of (map statement_tree xs))) c.args.told.now l.told) c.deref-node-items.ensures.value
    (left_none names reply statement_tree c.deref-node-items.result.now c.args.told.now l.node-index l.chain.kept l.chain.decided l.told (omega arith) l.invariant)

pub tell_body-returns-then-is_clear : goal.tell_body-returns-then-is_clear
tell_body-returns-then-is_clear t c =
    let names = c.args.names.now in
    body_told names (replies names c.args.features.now) c.args.told.now c.tell_statements.new.told c.args.body.now (clear_if names (replies names c.args.features.now) (elements false (forest_of (map statement_tree (out-CompoundStatement c.args.body.now).statements.items))) c.check_list.result c.is_clear.result c.check_list.ensures c.is_clear.ensures c.if-is_clear.true) c.tell_statements.ensures

pub tell_body-returns-else-is_clear : goal.tell_body-returns-else-is_clear
tell_body-returns-else-is_clear t c =
    let names = c.args.names.now in
    body_refused names (replies names c.args.features.now) c.args.told.now c.tell_list.new.told c.args.body.now (some_if names (replies names c.args.features.now) (elements false (forest_of (map statement_tree (out-CompoundStatement c.args.body.now).statements.items))) c.check_list.result c.is_clear.result c.check_list.ensures c.is_clear.ensures c.if-is_clear.false) c.tell_list.ensures

pub tell_else_ifs-loop-clause-preserved : goal.tell_else_ifs-loop-clause-preserved
tell_else_ifs-loop-clause-preserved t c =
    let names = c.args.names.now in
    let reply = replies names c.args.features.now in
    let l = c.loop-clause in
    listed_next names reply else_if_view c.deref-clause-items.result.now c.args.told.now l.clause-index c.clause-item.result l.told c.tell_body.new.told (omega arith) c.clause-item.is (else_if_told names reply l.told c.tell_body.new.told c.clause-item.result c.tell_body.ensures) l.invariant

pub tell_else_ifs-returns : goal.tell_else_ifs-returns
tell_else_ifs-returns t c =
    let names = c.args.names.now in
    let reply = replies names c.args.features.now in
    let l = c.loop-clause in
    subst (λ xs. AddsAll names reply (forest_of (map else_if_view xs)) c.args.told.now l.told) c.deref-clause-items.ensures.value
    (listed_none names reply else_if_view c.deref-clause-items.result.now c.args.told.now l.clause-index l.told (omega arith) l.invariant)

pub tell_else-returns-in-Some : goal.tell_else-returns-in-Some
tell_else-returns-in-Some t c =
    let names = c.args.names.now in
    else_told names (replies names c.args.features.now) c.args.told.now c.tell_body.new.told c.args.clause.now c.in-Some.clause c.in-Some.is c.tell_body.ensures

pub tell_else-returns-in-None : goal.tell_else-returns-in-None
tell_else-returns-in-None t c = absent_told c.args.names.now (replies c.args.names.now c.args.features.now) else_view c.args.told.now c.args.clause.now c.in-None.is

pub tell_clauses-returns-in-Err : goal.tell_clauses-returns-in-Err
tell_clauses-returns-in-Err t c =
    let names = c.args.names.now in
    clauses_refused names (replies names c.args.features.now) c.args.told.now c.tell_list.new.told c.args.clauses.now.items (refused_some names (replies names c.args.features.now) (elements false (forest_of (map clause_view c.args.clauses.now.items))) _ c.in-Err.ensures) c.tell_list.ensures

pub tell_clauses-loop-clause-init : goal.tell_clauses-loop-clause-init
tell_clauses-loop-clause-init t c =
    let names = c.args.names.now in
    left_at_start names (replies names c.args.features.now) clause_view c.deref-clause-items.result.now c.args.told.now _ _ c.new-chain.ensures.kept c.new-chain.ensures.decided

pub tell_clauses-loop-clause-preserved : goal.tell_clauses-loop-clause-preserved
tell_clauses-loop-clause-preserved t c =
    let names = c.args.names.now in
    let reply = replies names c.args.features.now in
    let l = c.loop-clause in
    let x = c.clause-item.result in
    let xs = c.deref-clause-items.result.now in
    let k = c.stays.new.chain.kept in
    let d = c.stays.new.chain.decided in
    elim c.if-stays.branch [
      | tell_clauses-then-stays w ↦ rw w.told-is (left_in names reply clause_view xs c.args.told.now l.clause-index l.chain.kept l.chain.decided k d c.stays.result x l.told w.tell_body.new.told (omega arith) c.clause-item.is w.if-stays.true (c.stays.ensures false) (clause_told names reply l.told w.tell_body.new.told x w.tell_body.ensures) l.invariant)
      | tell_clauses-else-stays w ↦ rw w.told-is (left_past names reply clause_view xs c.args.told.now l.clause-index l.chain.kept l.chain.decided k d c.stays.result x l.told (omega arith) c.clause-item.is w.if-stays.false (c.stays.ensures false) l.invariant)
    ]

pub tell_clauses-returns : goal.tell_clauses-returns
tell_clauses-returns t c =
    let names = c.args.names.now in
    let reply = replies names c.args.features.now in
    let l = c.loop-clause in
    clauses_told names reply c.args.told.now l.told c.args.clauses.now.items (clear_told reply false (elements false (forest_of (map clause_view c.args.clauses.now.items))) c.in-Ok.ensures)
    (subst (λ xs. AddsAll names reply (alone (stay reply) (forest_of (map clause_view xs))) c.args.told.now l.told) c.deref-clause-items.ensures.value
    (left_none names reply clause_view c.deref-clause-items.result.now c.args.told.now l.clause-index l.chain.kept l.chain.decided l.told (omega arith) l.invariant))

pub tell_optional-returns-in-Some : goal.tell_optional-returns-in-Some
tell_optional-returns-in-Some t c =
    let names = c.args.names.now in
    let reply = replies names c.args.features.now in
    optional_told names reply c.args.told.now c.tell_statement.new.told c.args.node.now c.in-Some.node c.in-Some.is (subst (λ n. AddsAll names reply (before (statement_view n.node) end) c.args.told.now c.tell_statement.new.told) c.deref.ensures c.tell_statement.ensures)

pub tell_optional-returns-in-None : goal.tell_optional-returns-in-None
tell_optional-returns-in-None t c = absent_told c.args.names.now (replies c.args.names.now c.args.features.now) (λ s. statement_tree (box_value s)) c.args.told.now c.args.node.now c.in-None.is

pub tell_last-returns-in-Some : goal.tell_last-returns-in-Some
tell_last-returns-in-Some t c =
    let names = c.args.names.now in
    last_told names (replies names c.args.features.now) c.args.stays c.in-Some.block c.args.continuing.now c.args.told.now c.tell_block.new.told c.in-Some.is c.if-stays.true c.tell_block.ensures

pub tell_last-returns-else-stays : goal.tell_last-returns-else-stays
tell_last-returns-else-stays t c = last_gone c.args.names.now (replies c.args.names.now c.args.features.now) c.args.stays c.args.continuing.now c.args.told.now c.if-stays.false

pub tell_last-returns-in-None : goal.tell_last-returns-in-None
tell_last-returns-in-None t c = last_absent c.args.names.now (replies c.args.names.now c.args.features.now) c.args.stays c.args.continuing.now c.args.told.now c.in-None.is

pub tell_block-returns-then-is_clear : goal.tell_block-returns-then-is_clear
tell_block-returns-then-is_clear t c =
    let names = c.args.names.now in
    block_told names (replies names c.args.features.now) c.args.block.now c.args.told.now c.tell_statements.new.told (clear_if names (replies names c.args.features.now) (elements false (forest_of (map statement_tree (out-CompoundStatement (out-ContinuingStatement c.args.block.now).body).statements.items)) ++ elements true (optional_forest break_if_view (out-ContinuingStatement c.args.block.now).break_if)) c.check_both.result c.is_clear.result c.check_both.ensures c.is_clear.ensures c.if-is_clear.true) c.tell_statements.ensures

pub tell_block-returns-else-is_clear : goal.tell_block-returns-else-is_clear
tell_block-returns-else-is_clear t c =
    let names = c.args.names.now in
    block_refused names (replies names c.args.features.now) c.args.block.now c.args.told.now c.tell_both.new.told (some_if names (replies names c.args.features.now) (elements false (forest_of (map statement_tree (out-CompoundStatement (out-ContinuingStatement c.args.block.now).body).statements.items)) ++ elements true (optional_forest break_if_view (out-ContinuingStatement c.args.block.now).break_if)) c.check_both.result c.is_clear.result c.check_both.ensures c.is_clear.ensures c.if-is_clear.false) c.tell_both.ensures
