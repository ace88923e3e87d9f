use Rattle.std.proofs.Common.{ap, refl, ◌∙◌}
use Rattle.wesl_tree_syntax.specs.Tree.{call_statement}
use Rattle.wesl_tree_syntax.specs.View.{statement_view}
use Rattle.wesl_tree_spelling.proofs.Chains.{grouped, last, left_by, of_kind, right_by, stop, then}
use Rattle.wesl_tree_spelling.proofs.UnlikeStatements.{group_left, group_right, not_is_action, unlike_Assignment, unlike_FunctionCall}
use Rattle.wesl_tree_spelling.specs.Groups.{is_action}
use Rattle.wesl_tree_spelling.proofs.tables.Tables.same_action.Goals as goal
use Rattle.wesl_tree_syntax.proofs.Views.{view_call_statement}

pub returns-in_default : goal.returns-in_default
returns-in_default c =
    group_left is_action (statement_view c.args.left.now) _ (not_is_action c.args.left.now c.in_default.not-Assignment c.in_default.not-FunctionCall)

pub returns-in_default-right : goal.returns-in_default-right
returns-in_default-right c =
    group_right is_action (statement_view c.args.left.now) _ (unlike_Assignment c.args.self.now.places (left_by c.args.self.now) (right_by c.args.self.now) c.args.left.now c.args.right.now c.in-Assignment.left_attributes c.in-Assignment.left_operator c.in-Assignment.left_lhs c.in-Assignment.left_rhs c.in-Assignment.is c.in_default-right.not-Assignment)

pub returns-in_default-right-2 : goal.returns-in_default-right-2
returns-in_default-right-2 c =
    group_right is_action (statement_view c.args.left.now) _ (unlike_FunctionCall c.args.self.now.places (left_by c.args.self.now) (right_by c.args.self.now) c.args.left.now c.args.right.now c.in-FunctionCall.left_attributes c.in-FunctionCall.left_call c.in-FunctionCall.is c.in_default-right-2.not-FunctionCall)

pub returns-then-same_attributes-2 : goal.returns-then-same_attributes-2
returns-then-same_attributes-2 c =
    grouped c.args.self.now is_action (ap statement_view c.in-FunctionCall.is ∙ view_call_statement _ _) (ap statement_view c.in-FunctionCall-right.is ∙ view_call_statement _ _) refl (of_kind call_statement refl (then c.same_attributes-in-FunctionCall-right.ensures c.if-same_attributes-2.true (last c.same_call.ensures)))

pub returns-else-same_attributes-2 : goal.returns-else-same_attributes-2
returns-else-same_attributes-2 c =
    grouped c.args.self.now is_action (ap statement_view c.in-FunctionCall.is ∙ view_call_statement _ _) (ap statement_view c.in-FunctionCall-right.is ∙ view_call_statement _ _) refl (of_kind call_statement refl (stop c.same_attributes-in-FunctionCall-right.ensures c.if-same_attributes-2.false))
