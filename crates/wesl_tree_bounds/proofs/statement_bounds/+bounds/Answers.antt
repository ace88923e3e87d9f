use Rattle.std.proofs.Common.{refl, sym, ◌∙◌, ◌≡◌, ◌&&◌, ap}
use Rattle.wesl_tree_syntax.specs.Tree.{statement_node, tree_below, list, clauses}
use Rattle.wesl_tree_syntax.specs.View.{clause_view, else_if_view, placed, statement_view, attributes_tree, expression_tree, if_view, else_view, listed, optional}
use Rattle.wesl_tree_bounds.proofs.Below.{end_below, next_below, not_below, placed_below, past_true, past_false}
use Rattle.wesl_tree_bounds.proofs.Views.{if_below, switch_below}
use Rattle.wesl_tree_bounds.proofs.statement_bounds.+bounds.Goals.{statement_is_below-then-attributes_are_below-2, statement_is_below-else-attributes_are_below-2, statement_is_below-then-if_is_below, statement_is_below-else-if_is_below, statement_is_below-then-attributes_are_below-3, statement_is_below-else-attributes_are_below-3, statement_is_below-then-node_is_below-2, statement_is_below-else-node_is_below-2}
use Rattle.wesl_tree_bounds.proofs.statement_bounds.+bounds.Goals as goal
use mathlib.Core.Bool.{and-true}

pub statements_are_below-loop-node-init : goal.statements_are_below-loop-node-init
statements_are_below-loop-node-init t c = refl

pub statements_are_below-loop-node-preserved : goal.statements_are_below-loop-node-preserved
statements_are_below-loop-node-preserved t c =
    next_below (placed statement_view statement_node) c.args.bound c.deref-node-items.result.now c.loop-node.node-index c.node-item.result c.loop-node-test.true c.node-item.is (placed_below statement_view statement_node c.args.bound c.node-item.result ∙ sym c.statement_is_below.ensures ∙ c.if-not-statement_is_below.false) c.loop-node.invariant

pub statements_are_below-returns-then-not-statement_is_below : goal.statements_are_below-returns-then-not-statement_is_below
statements_are_below-returns-then-not-statement_is_below t c =
    not_below (placed statement_view statement_node) c.args.bound c.deref-node-items.result.now c.args.nodes.now.items c.loop-node.node-index c.node-item.result c.loop-node-test.true c.node-item.is c.deref-node-items.ensures.value (placed_below statement_view statement_node c.args.bound c.node-item.result ∙ sym c.statement_is_below.ensures ∙ c.if-not-statement_is_below.true) c.loop-node.invariant

pub statements_are_below-returns : goal.statements_are_below-returns
statements_are_below-returns t c =
    end_below (placed statement_view statement_node) c.args.bound c.deref-node-items.result.now c.args.nodes.now.items c.loop-node.node-index c.loop-node-test.false c.deref-node-items.ensures.value c.loop-node.invariant

pub else_ifs_are_below-loop-clause-init : goal.else_ifs_are_below-loop-clause-init
else_ifs_are_below-loop-clause-init t c = refl

pub else_ifs_are_below-loop-clause-preserved : goal.else_ifs_are_below-loop-clause-preserved
else_ifs_are_below-loop-clause-preserved t c =
    next_below else_if_view c.args.bound c.deref-clause-items.result.now c.loop-clause.clause-index c.clause-item.result c.loop-clause-test.true c.clause-item.is (sym c.else_if_is_below.ensures ∙ c.if-not-else_if_is_below.false) c.loop-clause.invariant

pub else_ifs_are_below-returns-then-not-else_if_is_below : goal.else_ifs_are_below-returns-then-not-else_if_is_below
else_ifs_are_below-returns-then-not-else_if_is_below t c =
    not_below else_if_view c.args.bound c.deref-clause-items.result.now c.args.all.now.items c.loop-clause.clause-index c.clause-item.result c.loop-clause-test.true c.clause-item.is c.deref-clause-items.ensures.value (sym c.else_if_is_below.ensures ∙ c.if-not-else_if_is_below.true) c.loop-clause.invariant

pub else_ifs_are_below-returns : goal.else_ifs_are_below-returns
else_ifs_are_below-returns t c =
    end_below else_if_view c.args.bound c.deref-clause-items.result.now c.args.all.now.items c.loop-clause.clause-index c.loop-clause-test.false c.deref-clause-items.ensures.value c.loop-clause.invariant

pub clauses_are_below-loop-clause-init : goal.clauses_are_below-loop-clause-init
clauses_are_below-loop-clause-init t c = refl

pub clauses_are_below-loop-clause-preserved : goal.clauses_are_below-loop-clause-preserved
clauses_are_below-loop-clause-preserved t c =
    next_below clause_view c.args.bound c.deref-clause-items.result.now c.loop-clause.clause-index c.clause-item.result c.loop-clause-test.true c.clause-item.is (sym c.clause_is_below.ensures ∙ c.if-not-clause_is_below.false) c.loop-clause.invariant

pub clauses_are_below-returns-then-not-clause_is_below : goal.clauses_are_below-returns-then-not-clause_is_below
clauses_are_below-returns-then-not-clause_is_below t c =
    not_below clause_view c.args.bound c.deref-clause-items.result.now c.args.all.now.items c.loop-clause.clause-index c.clause-item.result c.loop-clause-test.true c.clause-item.is c.deref-clause-items.ensures.value (sym c.clause_is_below.ensures ∙ c.if-not-clause_is_below.true) c.loop-clause.invariant

pub clauses_are_below-returns : goal.clauses_are_below-returns
clauses_are_below-returns t c =
    end_below clause_view c.args.bound c.deref-clause-items.result.now c.args.all.now.items c.loop-clause.clause-index c.loop-clause-test.false c.deref-clause-items.ensures.value c.loop-clause.invariant

pub statement_is_below-returns-in-None : goal.statement_is_below-returns-in-None
statement_is_below-returns-in-None t c =
    let v = c.in-If in
    let n = c.args.bound in
    let a = tree_below n (attributes_tree v.attributes) in
    let i = tree_below n (if_view v.if_clause) in
    let e = tree_below n (listed else_if_view list v.else_if_clauses) in
    let o = tree_below n (optional else_view v.else_clause) in
    let first : c.if-attributes_are_below-2.value ≡ (a && i) = elim c.if-attributes_are_below-2.branch [
      | statement_is_below-then-attributes_are_below-2 w ↦ w.value-is ∙ (w.if_is_below.ensures ∙ sym (past_true a i (sym c.attributes_are_below-in-If.ensures ∙ w.if-attributes_are_below-2.true)))
      | statement_is_below-else-attributes_are_below-2 w ↦ w.value-is ∙ (w.if-attributes_are_below-2.false ∙ sym (past_false a i (sym c.attributes_are_below-in-If.ensures ∙ w.if-attributes_are_below-2.false)))
    ] in
    let second : c.if-if_is_below.value ≡ ((a && i) && e) = elim c.if-if_is_below.branch [
      | statement_is_below-then-if_is_below w ↦ w.value-is ∙ (w.else_ifs_are_below.ensures ∙ sym (past_true (a && i) e (sym first ∙ w.if-if_is_below.true)))
      | statement_is_below-else-if_is_below w ↦ w.value-is ∙ (w.if-if_is_below.false ∙ sym (past_false (a && i) e (sym first ∙ w.if-if_is_below.false)))
    ] in
    let whole = if_below n c.args.statement.now v.attributes v.if_clause v.else_if_clauses v.else_clause v.is in
    sym (whole ∙ (past_true ((a && i) && e) o (sym second ∙ c.if-else_ifs_are_below.true) ∙ ap (λ z. tree_below n (optional else_view z)) c.in-None.is))

pub statement_is_below-returns-in-Some : goal.statement_is_below-returns-in-Some
statement_is_below-returns-in-Some t c =
    let v = c.in-If in
    let n = c.args.bound in
    let a = tree_below n (attributes_tree v.attributes) in
    let i = tree_below n (if_view v.if_clause) in
    let e = tree_below n (listed else_if_view list v.else_if_clauses) in
    let o = tree_below n (optional else_view v.else_clause) in
    let first : c.if-attributes_are_below-2.value ≡ (a && i) = elim c.if-attributes_are_below-2.branch [
      | statement_is_below-then-attributes_are_below-2 w ↦ w.value-is ∙ (w.if_is_below.ensures ∙ sym (past_true a i (sym c.attributes_are_below-in-If.ensures ∙ w.if-attributes_are_below-2.true)))
      | statement_is_below-else-attributes_are_below-2 w ↦ w.value-is ∙ (w.if-attributes_are_below-2.false ∙ sym (past_false a i (sym c.attributes_are_below-in-If.ensures ∙ w.if-attributes_are_below-2.false)))
    ] in
    let second : c.if-if_is_below.value ≡ ((a && i) && e) = elim c.if-if_is_below.branch [
      | statement_is_below-then-if_is_below w ↦ w.value-is ∙ (w.else_ifs_are_below.ensures ∙ sym (past_true (a && i) e (sym first ∙ w.if-if_is_below.true)))
      | statement_is_below-else-if_is_below w ↦ w.value-is ∙ (w.if-if_is_below.false ∙ sym (past_false (a && i) e (sym first ∙ w.if-if_is_below.false)))
    ] in
    let whole = if_below n c.args.statement.now v.attributes v.if_clause v.else_if_clauses v.else_clause v.is in
    c.else_is_below.ensures
    ∙ sym (whole ∙ (past_true ((a && i) && e) o (sym second ∙ c.if-else_ifs_are_below.true) ∙ (ap (λ z. tree_below n (optional else_view z)) c.in-Some.is ∙ and-true (tree_below n (else_view c.in-Some.clause)))))

pub statement_is_below-returns-else-else_ifs_are_below : goal.statement_is_below-returns-else-else_ifs_are_below
statement_is_below-returns-else-else_ifs_are_below t c =
    let v = c.in-If in
    let n = c.args.bound in
    let a = tree_below n (attributes_tree v.attributes) in
    let i = tree_below n (if_view v.if_clause) in
    let e = tree_below n (listed else_if_view list v.else_if_clauses) in
    let o = tree_below n (optional else_view v.else_clause) in
    let first : c.if-attributes_are_below-2.value ≡ (a && i) = elim c.if-attributes_are_below-2.branch [
      | statement_is_below-then-attributes_are_below-2 w ↦ w.value-is ∙ (w.if_is_below.ensures ∙ sym (past_true a i (sym c.attributes_are_below-in-If.ensures ∙ w.if-attributes_are_below-2.true)))
      | statement_is_below-else-attributes_are_below-2 w ↦ w.value-is ∙ (w.if-attributes_are_below-2.false ∙ sym (past_false a i (sym c.attributes_are_below-in-If.ensures ∙ w.if-attributes_are_below-2.false)))
    ] in
    let second : c.if-if_is_below.value ≡ ((a && i) && e) = elim c.if-if_is_below.branch [
      | statement_is_below-then-if_is_below w ↦ w.value-is ∙ (w.else_ifs_are_below.ensures ∙ sym (past_true (a && i) e (sym first ∙ w.if-if_is_below.true)))
      | statement_is_below-else-if_is_below w ↦ w.value-is ∙ (w.if-if_is_below.false ∙ sym (past_false (a && i) e (sym first ∙ w.if-if_is_below.false)))
    ] in
    let whole = if_below n c.args.statement.now v.attributes v.if_clause v.else_if_clauses v.else_clause v.is in
    c.if-else_ifs_are_below.false ∙ sym (whole ∙ past_false ((a && i) && e) o (sym second ∙ c.if-else_ifs_are_below.false))

pub statement_is_below-returns-then-attributes_are_below-4 : goal.statement_is_below-returns-then-attributes_are_below-4
statement_is_below-returns-then-attributes_are_below-4 t c =
    let v = c.in-Switch in
    let n = c.args.bound in
    let a = tree_below n (attributes_tree v.attributes) in
    let e = tree_below n (expression_tree v.expression) in
    let b = tree_below n (attributes_tree v.body_attributes) in
    let cs = tree_below n (listed clause_view clauses v.clauses) in
    let first : c.if-attributes_are_below-3.value ≡ (a && e) = elim c.if-attributes_are_below-3.branch [
      | statement_is_below-then-attributes_are_below-3 w ↦ w.value-is ∙ (w.node_is_below-then-attributes_are_below-3.ensures ∙ sym (past_true a e (sym c.attributes_are_below-in-Switch.ensures ∙ w.if-attributes_are_below-3.true)))
      | statement_is_below-else-attributes_are_below-3 w ↦ w.value-is ∙ (w.if-attributes_are_below-3.false ∙ sym (past_false a e (sym c.attributes_are_below-in-Switch.ensures ∙ w.if-attributes_are_below-3.false)))
    ] in
    let second : c.if-node_is_below-2.value ≡ ((a && e) && b) = elim c.if-node_is_below-2.branch [
      | statement_is_below-then-node_is_below-2 w ↦ w.value-is ∙ (w.attributes_are_below-then-node_is_below-2.ensures ∙ sym (past_true (a && e) b (sym first ∙ w.if-node_is_below-2.true)))
      | statement_is_below-else-node_is_below-2 w ↦ w.value-is ∙ (w.if-node_is_below-2.false ∙ sym (past_false (a && e) b (sym first ∙ w.if-node_is_below-2.false)))
    ] in
    let whole = switch_below n c.args.statement.now v.attributes v.expression v.body_attributes v.clauses v.is in
    c.clauses_are_below.ensures ∙ sym (whole ∙ past_true ((a && e) && b) cs (sym second ∙ c.if-attributes_are_below-4.true))

pub statement_is_below-returns-else-attributes_are_below-4 : goal.statement_is_below-returns-else-attributes_are_below-4
statement_is_below-returns-else-attributes_are_below-4 t c =
    let v = c.in-Switch in
    let n = c.args.bound in
    let a = tree_below n (attributes_tree v.attributes) in
    let e = tree_below n (expression_tree v.expression) in
    let b = tree_below n (attributes_tree v.body_attributes) in
    let cs = tree_below n (listed clause_view clauses v.clauses) in
    let first : c.if-attributes_are_below-3.value ≡ (a && e) = elim c.if-attributes_are_below-3.branch [
      | statement_is_below-then-attributes_are_below-3 w ↦ w.value-is ∙ (w.node_is_below-then-attributes_are_below-3.ensures ∙ sym (past_true a e (sym c.attributes_are_below-in-Switch.ensures ∙ w.if-attributes_are_below-3.true)))
      | statement_is_below-else-attributes_are_below-3 w ↦ w.value-is ∙ (w.if-attributes_are_below-3.false ∙ sym (past_false a e (sym c.attributes_are_below-in-Switch.ensures ∙ w.if-attributes_are_below-3.false)))
    ] in
    let second : c.if-node_is_below-2.value ≡ ((a && e) && b) = elim c.if-node_is_below-2.branch [
      | statement_is_below-then-node_is_below-2 w ↦ w.value-is ∙ (w.attributes_are_below-then-node_is_below-2.ensures ∙ sym (past_true (a && e) b (sym first ∙ w.if-node_is_below-2.true)))
      | statement_is_below-else-node_is_below-2 w ↦ w.value-is ∙ (w.if-node_is_below-2.false ∙ sym (past_false (a && e) b (sym first ∙ w.if-node_is_below-2.false)))
    ] in
    let whole = switch_below n c.args.statement.now v.attributes v.expression v.body_attributes v.clauses v.is in
    c.if-attributes_are_below-4.false ∙ sym (whole ∙ past_false ((a && e) && b) cs (sym second ∙ c.if-attributes_are_below-4.false))
