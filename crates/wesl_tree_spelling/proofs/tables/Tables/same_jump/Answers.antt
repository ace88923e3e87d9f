use Rattle.std.proofs.Common.{ap, refl, ◌∙◌}
use Rattle.wesl_tree_syntax.specs.Tree.{break, continue, discard, return}
use Rattle.wesl_tree_syntax.specs.View.{statement_view}
use Rattle.wesl_tree_spelling.proofs.Chains.{grouped, last, left_by, of_kind, right_by, stop, then}
use Rattle.wesl_tree_spelling.proofs.UnlikeStatements.{group_left, group_right, not_is_jump, unlike_Break, unlike_Continue, unlike_Discard, unlike_Return}
use Rattle.wesl_tree_spelling.specs.Groups.{is_jump}
use Rattle.wesl_tree_spelling.proofs.tables.Tables.same_jump.Goals as goal
use Rattle.wesl_tree_syntax.proofs.Views.{view_break, view_continue, view_discard, view_return}

pub returns-in_default : goal.returns-in_default
returns-in_default c =
    group_left is_jump (statement_view c.args.left.now) _ (not_is_jump c.args.left.now c.in_default.not-Break c.in_default.not-Continue c.in_default.not-Return c.in_default.not-Discard)

pub returns-in_default-right : goal.returns-in_default-right
returns-in_default-right c =
    group_right is_jump (statement_view c.args.left.now) _ (unlike_Break c.args.self.now.places (left_by c.args.self.now) (right_by c.args.self.now) c.args.left.now c.args.right.now c.in-Break.left c.in-Break.is c.in_default-right.not-Break)

pub returns-in-Break-right : goal.returns-in-Break-right
returns-in-Break-right c =
    grouped c.args.self.now is_jump (ap statement_view c.in-Break.is ∙ view_break _) (ap statement_view c.in-Break-right.is ∙ view_break _) refl (of_kind break refl (last c.same_attributes.ensures))

pub returns-in_default-right-2 : goal.returns-in_default-right-2
returns-in_default-right-2 c =
    group_right is_jump (statement_view c.args.left.now) _ (unlike_Continue c.args.self.now.places (left_by c.args.self.now) (right_by c.args.self.now) c.args.left.now c.args.right.now c.in-Continue.left c.in-Continue.is c.in_default-right-2.not-Continue)

pub returns-in-Continue-right : goal.returns-in-Continue-right
returns-in-Continue-right c =
    grouped c.args.self.now is_jump (ap statement_view c.in-Continue.is ∙ view_continue _) (ap statement_view c.in-Continue-right.is ∙ view_continue _) refl (of_kind continue refl (last c.same_attributes-in-Continue-right.ensures))

pub returns-in_default-right-3 : goal.returns-in_default-right-3
returns-in_default-right-3 c =
    group_right is_jump (statement_view c.args.left.now) _ (unlike_Return c.args.self.now.places (left_by c.args.self.now) (right_by c.args.self.now) c.args.left.now c.args.right.now c.in-Return.left_attributes c.in-Return.left_expression c.in-Return.is c.in_default-right-3.not-Return)

pub returns-then-same_attributes : goal.returns-then-same_attributes
returns-then-same_attributes c =
    grouped c.args.self.now is_jump (ap statement_view c.in-Return.is ∙ view_return _ _) (ap statement_view c.in-Return-right.is ∙ view_return _ _) refl (of_kind return refl (then c.same_attributes-in-Return-right.ensures c.if-same_attributes.true (last c.same_optional_node.ensures)))

pub returns-else-same_attributes : goal.returns-else-same_attributes
returns-else-same_attributes c =
    grouped c.args.self.now is_jump (ap statement_view c.in-Return.is ∙ view_return _ _) (ap statement_view c.in-Return-right.is ∙ view_return _ _) refl (of_kind return refl (stop c.same_attributes-in-Return-right.ensures c.if-same_attributes.false))

pub returns-in_default-right-4 : goal.returns-in_default-right-4
returns-in_default-right-4 c =
    group_right is_jump (statement_view c.args.left.now) _ (unlike_Discard c.args.self.now.places (left_by c.args.self.now) (right_by c.args.self.now) c.args.left.now c.args.right.now c.in-Discard.left c.in-Discard.is c.in_default-right-4.not-Discard)

pub returns-in-Discard-right : goal.returns-in-Discard-right
returns-in-Discard-right c =
    grouped c.args.self.now is_jump (ap statement_view c.in-Discard.is ∙ view_discard _) (ap statement_view c.in-Discard-right.is ∙ view_discard _) refl (of_kind discard refl (last c.same_attributes-in-Discard-right.ensures))
