-- The trees of the nodes that hold lists or optional nodes of their own cycle, by the trees of their parts.
use Rattle.std.proofs.Common.{◌≡◌, [], ◌∷◌, rules}
use Rattle.std.specs.Global.{Vec}
use Rattle.wesl_tree_copies.proofs.Parts.{labelled}
use Rattle.wesl_tree_syntax.specs.Tree.{assignment}
use Rattle.wesl_tree_syntax.specs.View.{attributes_tree, expression_tree, statement_view}
use Rattle.wesl_tree_syntax.specs.declared.attribute.Attribute.{Attribute}
use Rattle.wesl_tree_syntax.specs.declared.expression.Expression.{Expression}
use Rattle.wesl_tree_syntax.specs.declared.span.Spanned.{Spanned}
use Rattle.wesl_tree_syntax.specs.declared.statement.AssignmentOperator.{AssignmentOperator}
use Rattle.wesl_tree_syntax.specs.declared.statement.Statement.{the_lemmas}
use Rattle.wesl_tree_syntax.specs.declared.statement.Statement as made

pub view_assignment : (a : Vec (Spanned Attribute)) (o : AssignmentOperator) (l r : Spanned Expression) → statement_view (made.Assignment a o l r) ≡ labelled (assignment o) (attributes_tree a ∷ expression_tree l ∷ expression_tree r ∷ [])
view_assignment a o l r = search (rules, the_lemmas)
