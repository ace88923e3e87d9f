use Rattle.std.proofs.Common.{ap, refl, ◌∙◌}
use Rattle.wesl_tree_syntax.specs.Tree.{decrement, increment}
use Rattle.wesl_tree_syntax.specs.View.{statement_view}
use Rattle.wesl_tree_spelling.proofs.Chains.{grouped, last, left_by, of_kind, right_by, stop, then}
use Rattle.wesl_tree_spelling.proofs.UnlikeStatements.{group_left, group_right, not_is_step, unlike_Decrement, unlike_Increment}
use Rattle.wesl_tree_spelling.specs.Groups.{is_step}
use Rattle.wesl_tree_spelling.proofs.tables.Tables.same_step.Goals as goal
use Rattle.wesl_tree_syntax.proofs.Views.{view_decrement, view_increment}

pub returns-in_default : goal.returns-in_default
returns-in_default c =
    group_left is_step (statement_view c.args.left.now) _ (not_is_step c.args.left.now c.in_default.not-Increment c.in_default.not-Decrement)

pub returns-in_default-right : goal.returns-in_default-right
returns-in_default-right c =
    group_right is_step (statement_view c.args.left.now) _ (unlike_Increment c.args.self.now.places (left_by c.args.self.now) (right_by c.args.self.now) c.args.left.now c.args.right.now c.in-Increment.left_attributes c.in-Increment.left_expression c.in-Increment.is c.in_default-right.not-Increment)

pub returns-then-same_attributes : goal.returns-then-same_attributes
returns-then-same_attributes c =
    grouped c.args.self.now is_step (ap statement_view c.in-Increment.is ∙ view_increment _ _) (ap statement_view c.in-Increment-right.is ∙ view_increment _ _) refl (of_kind increment refl (then c.same_attributes.ensures c.if-same_attributes.true (last c.same_node.ensures)))

pub returns-else-same_attributes : goal.returns-else-same_attributes
returns-else-same_attributes c =
    grouped c.args.self.now is_step (ap statement_view c.in-Increment.is ∙ view_increment _ _) (ap statement_view c.in-Increment-right.is ∙ view_increment _ _) refl (of_kind increment refl (stop c.same_attributes.ensures c.if-same_attributes.false))

pub returns-in_default-right-2 : goal.returns-in_default-right-2
returns-in_default-right-2 c =
    group_right is_step (statement_view c.args.left.now) _ (unlike_Decrement c.args.self.now.places (left_by c.args.self.now) (right_by c.args.self.now) c.args.left.now c.args.right.now c.in-Decrement.left_attributes c.in-Decrement.left_expression c.in-Decrement.is c.in_default-right-2.not-Decrement)

pub returns-then-same_attributes-2 : goal.returns-then-same_attributes-2
returns-then-same_attributes-2 c =
    grouped c.args.self.now is_step (ap statement_view c.in-Decrement.is ∙ view_decrement _ _) (ap statement_view c.in-Decrement-right.is ∙ view_decrement _ _) refl (of_kind decrement refl (then c.same_attributes-in-Decrement-right.ensures c.if-same_attributes-2.true (last c.same_node-then-same_attributes-2.ensures)))

pub returns-else-same_attributes-2 : goal.returns-else-same_attributes-2
returns-else-same_attributes-2 c =
    grouped c.args.self.now is_step (ap statement_view c.in-Decrement.is ∙ view_decrement _ _) (ap statement_view c.in-Decrement-right.is ∙ view_decrement _ _) refl (of_kind decrement refl (stop c.same_attributes-in-Decrement-right.ensures c.if-same_attributes-2.false))
