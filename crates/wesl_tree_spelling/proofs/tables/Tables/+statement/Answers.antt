use Rattle.std.proofs.Common.{ap, arith, refl, ◌∙◌}
use Rattle.wesl_tree_syntax.specs.Tree.{compound, compound_statement, continuing, else_clause, else_if_clause, for_loop, if_clause, if_statement, loop, switch, switch_clause, while_loop}
use Rattle.wesl_tree_syntax.specs.View.{clause_view, else_if_view, statement_tree, statement_view}
use Rattle.wesl_tree_spelling.proofs.Chains.{grouped, last, left_by, of_kind, plainly, right_by, seen, stop, then}
use Rattle.wesl_tree_spelling.proofs.Pairs.{all_agree, other_lengths, pair_agrees, pair_differs}
use Rattle.wesl_tree_spelling.proofs.UnlikeStatements.{group_left, group_right, not_is_for, not_is_if, not_is_plain_loop, not_is_switch, unlike_Compound, unlike_ConstAssert, unlike_Declaration, unlike_For, unlike_If, unlike_Loop, unlike_Switch, unlike_Void, unlike_While}
use Rattle.wesl_tree_spelling.specs.Groups.{is_for, is_if, is_plain_loop, is_switch}
use Rattle.wesl_tree_spelling.proofs.tables.Tables.+statement.Goals as goal
use Rattle.wesl_tree_syntax.proofs.Views.{view_block, view_clause, view_compound, view_const_assert, view_continuing, view_else, view_else_if, view_for, view_if, view_if_clause, view_local, view_loop, view_switch, view_while}

pub same_statements-returns-then-len : goal.same_statements-returns-then-len
same_statements-returns-then-len t c = other_lengths statement_tree c.args.self.now c.args.left.now c.args.right.now c.len.ensures c.len-2.ensures c.if-len.true

pub same_statements-loop-i-init : goal.same_statements-loop-i-init
same_statements-loop-i-init t c = record { rest = refl }

pub same_statements-index-requires : goal.same_statements-index-requires
same_statements-index-requires t c = omega (arith, c.loop-i-test.true, c.len-i-end.ensures)

pub same_statements-index-requires-in-loop-i : goal.same_statements-index-requires-in-loop-i
same_statements-index-requires-in-loop-i t c = omega (arith, c.loop-i-test.true, c.len-i-end.ensures, c.len.ensures, c.len-2.ensures, c.if-len.false)

pub same_statements-loop-i-preserved : goal.same_statements-loop-i-preserved
same_statements-loop-i-preserved t c =
    pair_agrees statement_tree c.args.self.now c.index.result.now c.index-in-loop-i.result.now c.len.ensures c.len-2.ensures c.if-len.false c.len-i-end.ensures c.loop-i-test.true c.index.ensures c.index-in-loop-i.ensures
    c.same_statement_node.ensures c.if-not-same_statement_node.false c.loop-i.invariant

pub same_statements-returns-then-not-same_statement_node : goal.same_statements-returns-then-not-same_statement_node
same_statements-returns-then-not-same_statement_node t c =
    pair_differs statement_tree c.args.self.now c.index.result.now c.index-in-loop-i.result.now c.len.ensures c.len-2.ensures c.if-len.false c.len-i-end.ensures c.loop-i-test.true c.index.ensures c.index-in-loop-i.ensures
    c.same_statement_node.ensures c.if-not-same_statement_node.true c.loop-i.invariant

pub same_statements-returns : goal.same_statements-returns
same_statements-returns t c = all_agree statement_tree c.args.self.now c.len.ensures c.len-2.ensures c.if-len.false c.len-i-end.ensures c.loop-i-test.false c.loop-i.invariant

pub same_else_ifs-returns-then-len : goal.same_else_ifs-returns-then-len
same_else_ifs-returns-then-len t c = other_lengths else_if_view c.args.self.now c.args.left.now c.args.right.now c.len.ensures c.len-2.ensures c.if-len.true

pub same_else_ifs-loop-i-init : goal.same_else_ifs-loop-i-init
same_else_ifs-loop-i-init t c = record { rest = refl }

pub same_else_ifs-index-requires : goal.same_else_ifs-index-requires
same_else_ifs-index-requires t c = omega (arith, c.loop-i-test.true, c.len-i-end.ensures)

pub same_else_ifs-index-requires-in-loop-i : goal.same_else_ifs-index-requires-in-loop-i
same_else_ifs-index-requires-in-loop-i t c = omega (arith, c.loop-i-test.true, c.len-i-end.ensures, c.len.ensures, c.len-2.ensures, c.if-len.false)

pub same_else_ifs-loop-i-preserved : goal.same_else_ifs-loop-i-preserved
same_else_ifs-loop-i-preserved t c =
    pair_agrees else_if_view c.args.self.now c.index.result.now c.index-in-loop-i.result.now c.len.ensures c.len-2.ensures c.if-len.false c.len-i-end.ensures c.loop-i-test.true c.index.ensures c.index-in-loop-i.ensures
    c.same_else_if.ensures c.if-not-same_else_if.false c.loop-i.invariant

pub same_else_ifs-returns-then-not-same_else_if : goal.same_else_ifs-returns-then-not-same_else_if
same_else_ifs-returns-then-not-same_else_if t c =
    pair_differs else_if_view c.args.self.now c.index.result.now c.index-in-loop-i.result.now c.len.ensures c.len-2.ensures c.if-len.false c.len-i-end.ensures c.loop-i-test.true c.index.ensures c.index-in-loop-i.ensures
    c.same_else_if.ensures c.if-not-same_else_if.true c.loop-i.invariant

pub same_else_ifs-returns : goal.same_else_ifs-returns
same_else_ifs-returns t c = all_agree else_if_view c.args.self.now c.len.ensures c.len-2.ensures c.if-len.false c.len-i-end.ensures c.loop-i-test.false c.loop-i.invariant

pub same_clauses-returns-then-len : goal.same_clauses-returns-then-len
same_clauses-returns-then-len t c = other_lengths clause_view c.args.self.now c.args.left.now c.args.right.now c.len.ensures c.len-2.ensures c.if-len.true

pub same_clauses-loop-i-init : goal.same_clauses-loop-i-init
same_clauses-loop-i-init t c = record { rest = refl }

pub same_clauses-index-requires : goal.same_clauses-index-requires
same_clauses-index-requires t c = omega (arith, c.loop-i-test.true, c.len-i-end.ensures)

pub same_clauses-index-requires-in-loop-i : goal.same_clauses-index-requires-in-loop-i
same_clauses-index-requires-in-loop-i t c = omega (arith, c.loop-i-test.true, c.len-i-end.ensures, c.len.ensures, c.len-2.ensures, c.if-len.false)

pub same_clauses-loop-i-preserved : goal.same_clauses-loop-i-preserved
same_clauses-loop-i-preserved t c =
    pair_agrees clause_view c.args.self.now c.index.result.now c.index-in-loop-i.result.now c.len.ensures c.len-2.ensures c.if-len.false c.len-i-end.ensures c.loop-i-test.true c.index.ensures c.index-in-loop-i.ensures
    c.same_clause.ensures c.if-not-same_clause.false c.loop-i.invariant

pub same_clauses-returns-then-not-same_clause : goal.same_clauses-returns-then-not-same_clause
same_clauses-returns-then-not-same_clause t c =
    pair_differs clause_view c.args.self.now c.index.result.now c.index-in-loop-i.result.now c.len.ensures c.len-2.ensures c.if-len.false c.len-i-end.ensures c.loop-i-test.true c.index.ensures c.index-in-loop-i.ensures
    c.same_clause.ensures c.if-not-same_clause.true c.loop-i.invariant

pub same_clauses-returns : goal.same_clauses-returns
same_clauses-returns t c = all_agree clause_view c.args.self.now c.len.ensures c.len-2.ensures c.if-len.false c.len-i-end.ensures c.loop-i-test.false c.loop-i.invariant

pub same_compound-returns-then-same_attributes : goal.same_compound-returns-then-same_attributes
same_compound-returns-then-same_attributes t c = seen c.args.self.now (view_compound c.args.left.now) (view_compound c.args.right.now) (of_kind compound refl (then c.same_attributes.ensures c.if-same_attributes.true (last c.same_statements.ensures)))

pub same_compound-returns-else-same_attributes : goal.same_compound-returns-else-same_attributes
same_compound-returns-else-same_attributes t c = seen c.args.self.now (view_compound c.args.left.now) (view_compound c.args.right.now) (of_kind compound refl (stop c.same_attributes.ensures c.if-same_attributes.false))

pub same_if-returns-then-same_node : goal.same_if-returns-then-same_node
same_if-returns-then-same_node t c = seen c.args.self.now (view_if_clause c.args.left.now) (view_if_clause c.args.right.now) (of_kind if_clause refl (then c.same_node.ensures c.if-same_node.true (last c.same_compound.ensures)))

pub same_if-returns-else-same_node : goal.same_if-returns-else-same_node
same_if-returns-else-same_node t c = seen c.args.self.now (view_if_clause c.args.left.now) (view_if_clause c.args.right.now) (of_kind if_clause refl (stop c.same_node.ensures c.if-same_node.false))

pub same_else-returns-then-same_attributes : goal.same_else-returns-then-same_attributes
same_else-returns-then-same_attributes t c = seen c.args.self.now (view_else c.args.left.now) (view_else c.args.right.now) (of_kind else_clause refl (then c.same_attributes.ensures c.if-same_attributes.true (last c.same_compound.ensures)))

pub same_else-returns-else-same_attributes : goal.same_else-returns-else-same_attributes
same_else-returns-else-same_attributes t c = seen c.args.self.now (view_else c.args.left.now) (view_else c.args.right.now) (of_kind else_clause refl (stop c.same_attributes.ensures c.if-same_attributes.false))

pub same_else_if-returns-then-same_node : goal.same_else_if-returns-then-same_node
same_else_if-returns-then-same_node t c =
    seen c.args.self.now (view_else_if c.args.left.now) (view_else_if c.args.right.now) (of_kind else_if_clause refl (then c.same_attributes.ensures c.if-same_attributes.true (then c.same_node.ensures c.if-same_node.true (last c.same_compound.ensures))))

pub same_else_if-returns-else-same_attributes : goal.same_else_if-returns-else-same_attributes
same_else_if-returns-else-same_attributes t c =
    seen c.args.self.now (view_else_if c.args.left.now) (view_else_if c.args.right.now) (of_kind else_if_clause refl (stop c.same_attributes.ensures c.if-same_attributes.false))

pub same_else_if-returns-else-same_node : goal.same_else_if-returns-else-same_node
same_else_if-returns-else-same_node t c =
    seen c.args.self.now (view_else_if c.args.left.now) (view_else_if c.args.right.now) (of_kind else_if_clause refl (then c.same_attributes.ensures c.if-same_attributes.true (stop c.same_node.ensures c.if-same_node.false)))

pub same_clause-returns-then-same_selectors : goal.same_clause-returns-then-same_selectors
same_clause-returns-then-same_selectors t c =
    seen c.args.self.now (view_clause c.args.left.now) (view_clause c.args.right.now) (of_kind switch_clause refl (then c.same_attributes.ensures c.if-same_attributes.true (then c.same_selectors.ensures c.if-same_selectors.true (last c.same_compound.ensures))))

pub same_clause-returns-else-same_attributes : goal.same_clause-returns-else-same_attributes
same_clause-returns-else-same_attributes t c =
    seen c.args.self.now (view_clause c.args.left.now) (view_clause c.args.right.now) (of_kind switch_clause refl (stop c.same_attributes.ensures c.if-same_attributes.false))

pub same_clause-returns-else-same_selectors : goal.same_clause-returns-else-same_selectors
same_clause-returns-else-same_selectors t c =
    seen c.args.self.now (view_clause c.args.left.now) (view_clause c.args.right.now) (of_kind switch_clause refl (then c.same_attributes.ensures c.if-same_attributes.true (stop c.same_selectors.ensures c.if-same_selectors.false)))

pub same_continuing-returns-then-same_compound : goal.same_continuing-returns-then-same_compound
same_continuing-returns-then-same_compound t c =
    seen c.args.self.now (view_continuing c.args.left.now) (view_continuing c.args.right.now) (of_kind continuing refl (then c.same_attributes.ensures c.if-same_attributes.true (then c.same_compound.ensures c.if-same_compound.true (last c.same_optional_break_if.ensures))))

pub same_continuing-returns-else-same_attributes : goal.same_continuing-returns-else-same_attributes
same_continuing-returns-else-same_attributes t c =
    seen c.args.self.now (view_continuing c.args.left.now) (view_continuing c.args.right.now) (of_kind continuing refl (stop c.same_attributes.ensures c.if-same_attributes.false))

pub same_continuing-returns-else-same_compound : goal.same_continuing-returns-else-same_compound
same_continuing-returns-else-same_compound t c =
    seen c.args.self.now (view_continuing c.args.left.now) (view_continuing c.args.right.now) (of_kind continuing refl (then c.same_attributes.ensures c.if-same_attributes.true (stop c.same_compound.ensures c.if-same_compound.false)))

pub same_statement-returns-in-Compound-right : goal.same_statement-returns-in-Compound-right
same_statement-returns-in-Compound-right t c =
    seen c.args.self.now (ap statement_view c.in-Compound.is ∙ view_block _) (ap statement_view c.in-Compound-right.is ∙ view_block _) (of_kind compound_statement refl (last c.same_compound.ensures))

pub same_statement-returns-in-ConstAssert-right : goal.same_statement-returns-in-ConstAssert-right
same_statement-returns-in-ConstAssert-right t c =
    seen c.args.self.now (ap statement_view c.in-ConstAssert.is ∙ view_const_assert _) (ap statement_view c.in-ConstAssert-right.is ∙ view_const_assert _) (plainly c.same_assert.ensures)

pub same_statement-returns-in-Declaration-right : goal.same_statement-returns-in-Declaration-right
same_statement-returns-in-Declaration-right t c =
    seen c.args.self.now (ap statement_view c.in-Declaration.is ∙ view_local _) (ap statement_view c.in-Declaration-right.is ∙ view_local _) (plainly c.same_declaration.ensures)

pub same_statement-returns-in_default : goal.same_statement-returns-in_default
same_statement-returns-in_default t c = unlike_Void c.args.self.now.places (left_by c.args.self.now) (right_by c.args.self.now) c.args.left.now c.args.right.now c.in-Void.is c.in_default.not-Void

pub same_statement-returns-in_default-right : goal.same_statement-returns-in_default-right
same_statement-returns-in_default-right t c = unlike_Compound c.args.self.now.places (left_by c.args.self.now) (right_by c.args.self.now) c.args.left.now c.args.right.now c.in-Compound.body c.in-Compound.is c.in_default-right.not-Compound

pub same_statement-returns-in_default-right-2 : goal.same_statement-returns-in_default-right-2
same_statement-returns-in_default-right-2 t c = unlike_ConstAssert c.args.self.now.places (left_by c.args.self.now) (right_by c.args.self.now) c.args.left.now c.args.right.now c.in-ConstAssert.assertion c.in-ConstAssert.is c.in_default-right-2.not-ConstAssert

pub same_statement-returns-in_default-right-3 : goal.same_statement-returns-in_default-right-3
same_statement-returns-in_default-right-3 t c = unlike_Declaration c.args.self.now.places (left_by c.args.self.now) (right_by c.args.self.now) c.args.left.now c.args.right.now c.in-Declaration.declaration c.in-Declaration.is c.in_default-right-3.not-Declaration

pub same_if_statement-returns-in_default : goal.same_if_statement-returns-in_default
same_if_statement-returns-in_default t c =
    group_left is_if (statement_view c.args.left.now) _ (not_is_if c.args.left.now c.in_default.not-If)

pub same_if_statement-returns-in_default-right : goal.same_if_statement-returns-in_default-right
same_if_statement-returns-in_default-right t c =
    group_right is_if (statement_view c.args.left.now) _ (unlike_If c.args.self.now.places (left_by c.args.self.now) (right_by c.args.self.now) c.args.left.now c.args.right.now c.in-If.left_attributes c.in-If.left_if_clause c.in-If.left_else_if_clauses c.in-If.left_else_clause c.in-If.is c.in_default-right.not-If)

pub same_if_statement-returns-then-same_else_ifs : goal.same_if_statement-returns-then-same_else_ifs
same_if_statement-returns-then-same_else_ifs t c =
    grouped c.args.self.now is_if (ap statement_view c.in-If.is ∙ view_if _ _ _ _) (ap statement_view c.in-If-right.is ∙ view_if _ _ _ _) refl (of_kind if_statement refl (then c.same_attributes.ensures c.if-same_attributes.true (then c.same_if.ensures c.if-same_if.true (then c.same_else_ifs.ensures c.if-same_else_ifs.true (last c.same_optional_else.ensures)))))

pub same_if_statement-returns-else-same_attributes : goal.same_if_statement-returns-else-same_attributes
same_if_statement-returns-else-same_attributes t c =
    grouped c.args.self.now is_if (ap statement_view c.in-If.is ∙ view_if _ _ _ _) (ap statement_view c.in-If-right.is ∙ view_if _ _ _ _) refl (of_kind if_statement refl (stop c.same_attributes.ensures c.if-same_attributes.false))

pub same_if_statement-returns-else-same_if : goal.same_if_statement-returns-else-same_if
same_if_statement-returns-else-same_if t c =
    grouped c.args.self.now is_if (ap statement_view c.in-If.is ∙ view_if _ _ _ _) (ap statement_view c.in-If-right.is ∙ view_if _ _ _ _) refl (of_kind if_statement refl (then c.same_attributes.ensures c.if-same_attributes.true (stop c.same_if.ensures c.if-same_if.false)))

pub same_if_statement-returns-else-same_else_ifs : goal.same_if_statement-returns-else-same_else_ifs
same_if_statement-returns-else-same_else_ifs t c =
    grouped c.args.self.now is_if (ap statement_view c.in-If.is ∙ view_if _ _ _ _) (ap statement_view c.in-If-right.is ∙ view_if _ _ _ _) refl (of_kind if_statement refl (then c.same_attributes.ensures c.if-same_attributes.true (then c.same_if.ensures c.if-same_if.true (stop c.same_else_ifs.ensures c.if-same_else_ifs.false))))

pub same_switch-returns-in_default : goal.same_switch-returns-in_default
same_switch-returns-in_default t c =
    group_left is_switch (statement_view c.args.left.now) _ (not_is_switch c.args.left.now c.in_default.not-Switch)

pub same_switch-returns-in_default-right : goal.same_switch-returns-in_default-right
same_switch-returns-in_default-right t c =
    group_right is_switch (statement_view c.args.left.now) _ (unlike_Switch c.args.self.now.places (left_by c.args.self.now) (right_by c.args.self.now) c.args.left.now c.args.right.now c.in-Switch.left_attributes c.in-Switch.left_expression c.in-Switch.left_body_attributes c.in-Switch.left_clauses c.in-Switch.is c.in_default-right.not-Switch)

pub same_switch-returns-then-same_attributes-2 : goal.same_switch-returns-then-same_attributes-2
same_switch-returns-then-same_attributes-2 t c =
    grouped c.args.self.now is_switch (ap statement_view c.in-Switch.is ∙ view_switch _ _ _ _) (ap statement_view c.in-Switch-right.is ∙ view_switch _ _ _ _) refl (of_kind switch refl (then c.same_attributes.ensures c.if-same_attributes.true (then c.same_node.ensures c.if-same_node.true (then c.same_attributes-then-same_node.ensures c.if-same_attributes-2.true (last c.same_clauses.ensures)))))

pub same_switch-returns-else-same_attributes : goal.same_switch-returns-else-same_attributes
same_switch-returns-else-same_attributes t c =
    grouped c.args.self.now is_switch (ap statement_view c.in-Switch.is ∙ view_switch _ _ _ _) (ap statement_view c.in-Switch-right.is ∙ view_switch _ _ _ _) refl (of_kind switch refl (stop c.same_attributes.ensures c.if-same_attributes.false))

pub same_switch-returns-else-same_node : goal.same_switch-returns-else-same_node
same_switch-returns-else-same_node t c =
    grouped c.args.self.now is_switch (ap statement_view c.in-Switch.is ∙ view_switch _ _ _ _) (ap statement_view c.in-Switch-right.is ∙ view_switch _ _ _ _) refl (of_kind switch refl (then c.same_attributes.ensures c.if-same_attributes.true (stop c.same_node.ensures c.if-same_node.false)))

pub same_switch-returns-else-same_attributes-2 : goal.same_switch-returns-else-same_attributes-2
same_switch-returns-else-same_attributes-2 t c =
    grouped c.args.self.now is_switch (ap statement_view c.in-Switch.is ∙ view_switch _ _ _ _) (ap statement_view c.in-Switch-right.is ∙ view_switch _ _ _ _) refl (of_kind switch refl (then c.same_attributes.ensures c.if-same_attributes.true (then c.same_node.ensures c.if-same_node.true (stop c.same_attributes-then-same_node.ensures c.if-same_attributes-2.false))))

pub same_plain_loop-returns-in_default : goal.same_plain_loop-returns-in_default
same_plain_loop-returns-in_default t c =
    group_left is_plain_loop (statement_view c.args.left.now) _ (not_is_plain_loop c.args.left.now c.in_default.not-Loop c.in_default.not-While)

pub same_plain_loop-returns-in_default-right : goal.same_plain_loop-returns-in_default-right
same_plain_loop-returns-in_default-right t c =
    group_right is_plain_loop (statement_view c.args.left.now) _ (unlike_Loop c.args.self.now.places (left_by c.args.self.now) (right_by c.args.self.now) c.args.left.now c.args.right.now c.in-Loop.left_attributes c.in-Loop.left_body c.in-Loop.left_continuing c.in-Loop.is c.in_default-right.not-Loop)

pub same_plain_loop-returns-then-same_compound : goal.same_plain_loop-returns-then-same_compound
same_plain_loop-returns-then-same_compound t c =
    grouped c.args.self.now is_plain_loop (ap statement_view c.in-Loop.is ∙ view_loop _ _ _) (ap statement_view c.in-Loop-right.is ∙ view_loop _ _ _) refl (of_kind loop refl (then c.same_attributes.ensures c.if-same_attributes.true (then c.same_compound.ensures c.if-same_compound.true (last c.same_optional_continuing.ensures))))

pub same_plain_loop-returns-else-same_attributes : goal.same_plain_loop-returns-else-same_attributes
same_plain_loop-returns-else-same_attributes t c =
    grouped c.args.self.now is_plain_loop (ap statement_view c.in-Loop.is ∙ view_loop _ _ _) (ap statement_view c.in-Loop-right.is ∙ view_loop _ _ _) refl (of_kind loop refl (stop c.same_attributes.ensures c.if-same_attributes.false))

pub same_plain_loop-returns-else-same_compound : goal.same_plain_loop-returns-else-same_compound
same_plain_loop-returns-else-same_compound t c =
    grouped c.args.self.now is_plain_loop (ap statement_view c.in-Loop.is ∙ view_loop _ _ _) (ap statement_view c.in-Loop-right.is ∙ view_loop _ _ _) refl (of_kind loop refl (then c.same_attributes.ensures c.if-same_attributes.true (stop c.same_compound.ensures c.if-same_compound.false)))

pub same_plain_loop-returns-in_default-right-2 : goal.same_plain_loop-returns-in_default-right-2
same_plain_loop-returns-in_default-right-2 t c =
    group_right is_plain_loop (statement_view c.args.left.now) _ (unlike_While c.args.self.now.places (left_by c.args.self.now) (right_by c.args.self.now) c.args.left.now c.args.right.now c.in-While.left_attributes c.in-While.left_condition c.in-While.left_body c.in-While.is c.in_default-right-2.not-While)

pub same_plain_loop-returns-then-same_node : goal.same_plain_loop-returns-then-same_node
same_plain_loop-returns-then-same_node t c =
    grouped c.args.self.now is_plain_loop (ap statement_view c.in-While.is ∙ view_while _ _ _) (ap statement_view c.in-While-right.is ∙ view_while _ _ _) refl (of_kind while_loop refl (then c.same_attributes-in-While-right.ensures c.if-same_attributes-2.true (then c.same_node.ensures c.if-same_node.true (last c.same_compound-then-same_node.ensures))))

pub same_plain_loop-returns-else-same_attributes-2 : goal.same_plain_loop-returns-else-same_attributes-2
same_plain_loop-returns-else-same_attributes-2 t c =
    grouped c.args.self.now is_plain_loop (ap statement_view c.in-While.is ∙ view_while _ _ _) (ap statement_view c.in-While-right.is ∙ view_while _ _ _) refl (of_kind while_loop refl (stop c.same_attributes-in-While-right.ensures c.if-same_attributes-2.false))

pub same_plain_loop-returns-else-same_node : goal.same_plain_loop-returns-else-same_node
same_plain_loop-returns-else-same_node t c =
    grouped c.args.self.now is_plain_loop (ap statement_view c.in-While.is ∙ view_while _ _ _) (ap statement_view c.in-While-right.is ∙ view_while _ _ _) refl (of_kind while_loop refl (then c.same_attributes-in-While-right.ensures c.if-same_attributes-2.true (stop c.same_node.ensures c.if-same_node.false)))

pub same_for-returns-in_default : goal.same_for-returns-in_default
same_for-returns-in_default t c =
    group_left is_for (statement_view c.args.left.now) _ (not_is_for c.args.left.now c.in_default.not-For)

pub same_for-returns-in_default-right : goal.same_for-returns-in_default-right
same_for-returns-in_default-right t c =
    group_right is_for (statement_view c.args.left.now) _ (unlike_For c.args.self.now.places (left_by c.args.self.now) (right_by c.args.self.now) c.args.left.now c.args.right.now c.in-For.left_attributes c.in-For.left_initializer c.in-For.left_condition c.in-For.left_update c.in-For.left_body c.in-For.is c.in_default-right.not-For)

pub same_for-returns-then-same_optional_statement-2 : goal.same_for-returns-then-same_optional_statement-2
same_for-returns-then-same_optional_statement-2 t c =
    grouped c.args.self.now is_for (ap statement_view c.in-For.is ∙ view_for _ _ _ _ _) (ap statement_view c.in-For-right.is ∙ view_for _ _ _ _ _) refl (of_kind for_loop refl (then c.same_attributes.ensures c.if-same_attributes.true (then c.same_optional_statement.ensures c.if-same_optional_statement.true (then c.same_optional_node.ensures c.if-same_optional_node.true (then c.same_optional_statement-then-same_optional_node.ensures c.if-same_optional_statement-2.true (last c.same_compound.ensures))))))

pub same_for-returns-else-same_attributes : goal.same_for-returns-else-same_attributes
same_for-returns-else-same_attributes t c =
    grouped c.args.self.now is_for (ap statement_view c.in-For.is ∙ view_for _ _ _ _ _) (ap statement_view c.in-For-right.is ∙ view_for _ _ _ _ _) refl (of_kind for_loop refl (stop c.same_attributes.ensures c.if-same_attributes.false))

pub same_for-returns-else-same_optional_statement : goal.same_for-returns-else-same_optional_statement
same_for-returns-else-same_optional_statement t c =
    grouped c.args.self.now is_for (ap statement_view c.in-For.is ∙ view_for _ _ _ _ _) (ap statement_view c.in-For-right.is ∙ view_for _ _ _ _ _) refl (of_kind for_loop refl (then c.same_attributes.ensures c.if-same_attributes.true (stop c.same_optional_statement.ensures c.if-same_optional_statement.false)))

pub same_for-returns-else-same_optional_node : goal.same_for-returns-else-same_optional_node
same_for-returns-else-same_optional_node t c =
    grouped c.args.self.now is_for (ap statement_view c.in-For.is ∙ view_for _ _ _ _ _) (ap statement_view c.in-For-right.is ∙ view_for _ _ _ _ _) refl (of_kind for_loop refl (then c.same_attributes.ensures c.if-same_attributes.true (then c.same_optional_statement.ensures c.if-same_optional_statement.true (stop c.same_optional_node.ensures c.if-same_optional_node.false))))

pub same_for-returns-else-same_optional_statement-2 : goal.same_for-returns-else-same_optional_statement-2
same_for-returns-else-same_optional_statement-2 t c =
    grouped c.args.self.now is_for (ap statement_view c.in-For.is ∙ view_for _ _ _ _ _) (ap statement_view c.in-For-right.is ∙ view_for _ _ _ _ _) refl (of_kind for_loop refl (then c.same_attributes.ensures c.if-same_attributes.true (then c.same_optional_statement.ensures c.if-same_optional_statement.true (then c.same_optional_node.ensures c.if-same_optional_node.true (stop c.same_optional_statement-then-same_optional_node.ensures c.if-same_optional_statement-2.false)))))
