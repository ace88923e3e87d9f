-- The trees of statements and of the clauses in them, by the trees of their parts.
use Rattle.std.proofs.Common.{◌≡◌, [], ◌∷◌, rules, Global, Vec}
use Rattle.wesl_tree_syntax.specs.Tree.{assignment, forest_of}
use Rattle.wesl_tree_syntax.specs.View.{attributes_tree, expression_tree, statement_view}
use Rattle.wesl_tree_syntax.specs.declared.attribute.Attribute.{Attribute}
use Rattle.wesl_tree_syntax.specs.declared.expression.Expression.{Expression}
use Rattle.wesl_tree_syntax.specs.declared.span.Spanned.{Spanned}
use Rattle.wesl_tree_syntax.specs.declared.statement.AssignmentOperator.{AssignmentOperator}
use Rattle.wesl_tree_syntax.specs.declared.statement.Statement.{the_lemmas}
use Rattle.wesl_tree_syntax.specs.declared.statement.Statement as made

pub view_Assignment : (a : Vec (Spanned Attribute) Global) (o : AssignmentOperator) (l : Spanned Expression) (r : Spanned Expression) → statement_view (made.Assignment a o l r) ≡ record { label = assignment o; children = forest_of (attributes_tree a ∷ expression_tree l ∷ expression_tree r ∷ []) }
view_Assignment a o l r = search (rules, the_lemmas)
