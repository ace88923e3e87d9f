-- The trees of the statements that are made.
use Rattle.std.proofs.Common.{◌≡◌, [], ◌∷◌, Option, Vec, Global, ap, ◌∙◌}
use Rattle.wesl_tree_syntax.specs.Tree.{branch, list, statements, compound_statement, compound, if_statement, if_clause}
use Rattle.wesl_tree_syntax.specs.View.{attributes_tree, expression_tree, compound_view, else_view, else_if_view, statement_view, statement_tree, listed, optional}
use Rattle.wesl_tree_syntax.specs.declared.span.Spanned.{Spanned}
use Rattle.wesl_tree_syntax.specs.declared.attribute.Attribute.{Attribute}
use Rattle.wesl_tree_syntax.specs.declared.expression.Expression.{Expression}
use Rattle.wesl_tree_syntax.specs.declared.statement.Statement.{Statement}
use Rattle.wesl_tree_syntax.specs.declared.statement.Statement.TheViews as made
use Rattle.wesl_tree_syntax.specs.declared.statement.CompoundStatement.{CompoundStatement, roll-CompoundStatement}
use Rattle.wesl_tree_syntax.specs.declared.statement.ElseClause.{ElseClause}
use Rattle.wesl_tree_syntax.specs.declared.statement.ElseIfClause.{ElseIfClause}
use Rattle.wesl_tree_syntax.specs.declared.statement.IfClause.{roll-IfClause}
use Rattle.wesl_tree_syntax.proofs.Views.{view_block, view_compound_of, view_if, view_if_clause_of}

abbrev pub Attributes : Type 0
Attributes = Vec (Spanned Attribute) Global

-- ---- statements

pub view-block : (a : Attributes) (v : Vec (Spanned Statement) Global) → statement_view (made.Compound (roll-CompoundStatement (record { attributes = a; statements = v }))) ≡ branch compound_statement (branch compound (attributes_tree a ∷ listed statement_tree statements v ∷ []) ∷ [])
view-block a v = view_block (roll-CompoundStatement (record { attributes = a; statements = v })) ∙ ap (λ t. branch compound_statement (t ∷ [])) (view_compound_of a v)

pub view-if : (a : Attributes) (e : Spanned Expression) (b : CompoundStatement) (es : Vec ElseIfClause Global) (o : Option ElseClause) → statement_view (made.If a (roll-IfClause (record { expression = e; body = b })) es o) ≡ branch if_statement (attributes_tree a ∷ branch if_clause (expression_tree e ∷ compound_view b ∷ []) ∷ listed else_if_view list es ∷ optional else_view o ∷ [])
view-if a e b es o = view_if a (roll-IfClause (record { expression = e; body = b })) es o ∙ ap (λ t. branch if_statement (attributes_tree a ∷ t ∷ listed else_if_view list es ∷ optional else_view o ∷ [])) (view_if_clause_of e b)
