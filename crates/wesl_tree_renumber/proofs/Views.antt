-- The trees of expressions, template arguments and entries of imports, by the trees of their parts.
use Rattle.std.proofs.Common.{◌≡◌, [], ◌∷◌, rules}
use Rattle.std.specs.Box.{box_value}
use Rattle.std.specs.Global.{Box}
use Rattle.wesl_tree_copies.proofs.Parts.{labelled}
use Rattle.wesl_tree_syntax.specs.Tree.{binary, unary}
use Rattle.wesl_tree_syntax.specs.View.{expression_tree, expression_view}
use Rattle.wesl_tree_syntax.specs.declared.expression.BinaryOperator.{BinaryOperator}
use Rattle.wesl_tree_syntax.specs.declared.expression.Expression.{Expression, the_lemmas}
use Rattle.wesl_tree_syntax.specs.declared.expression.Expression as made
use Rattle.wesl_tree_syntax.specs.declared.expression.UnaryOperator.{UnaryOperator}
use Rattle.wesl_tree_syntax.specs.declared.span.Spanned.{Spanned}

pub view_unary : (o : UnaryOperator) (e : Box (Spanned Expression)) → expression_view (made.Unary o e) ≡ labelled (unary o) (expression_tree (box_value e) ∷ [])
view_unary o e = search (rules, the_lemmas)

pub view_binary : (o : BinaryOperator) (l r : Box (Spanned Expression)) → expression_view (made.Binary o l r) ≡ labelled (binary o) (expression_tree (box_value l) ∷ expression_tree (box_value r) ∷ [])
view_binary o l r = search (rules, the_lemmas)
