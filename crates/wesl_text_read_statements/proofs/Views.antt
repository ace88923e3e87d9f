-- The trees of the statements that are made.
use Rattle.std.proofs.Common.{◌≡◌, [], ◌∷◌, Option, Vec, Global, rules}
use Rattle.std.specs.Global.{Box}
use Rattle.wesl_tree_syntax.specs.Tree.{branch, for_loop}
use Rattle.wesl_tree_syntax.specs.View.{attributes_tree, expression_tree, compound_view, statement_view, optional}
use Rattle.wesl_tree_syntax.specs.declared.span.Spanned.{Spanned}
use Rattle.wesl_tree_syntax.specs.declared.attribute.Attribute.{Attribute}
use Rattle.wesl_tree_syntax.specs.declared.expression.Expression.{Expression}
use Rattle.wesl_tree_syntax.specs.declared.statement.Statement.{Statement, the_lemmas}
use Rattle.wesl_tree_syntax.specs.declared.statement.Statement.TheViews as made
use Rattle.wesl_tree_syntax.specs.declared.statement.CompoundStatement.{CompoundStatement}
use Rattle.wesl_text_read_statements.specs.Statements.{boxed_statement}

abbrev Attributes : Type 0
Attributes = Vec (Spanned Attribute) Global

-- ---- statements

pub view-for : (a : Attributes) (i : Option (Box (Spanned Statement))) (e : Option (Spanned Expression)) (u : Option (Box (Spanned Statement))) (b : CompoundStatement) → statement_view (made.For a i e u b) ≡ branch for_loop (attributes_tree a ∷ optional boxed_statement i ∷ optional expression_tree e ∷ optional boxed_statement u ∷ compound_view b ∷ [])
view-for a i e u b = search (rules, the_lemmas)
