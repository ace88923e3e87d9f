-- What is of no kind: a variant, where the node around it is.
use Rattle.std.specs.Prelude.{◌≡◌, false}
use Rattle.wesl_tree_syntax.specs.View.{attribute_view, expression_view, global_view, statement_view}
use Rattle.wesl_tree_syntax.specs.declared.attribute.Attribute.{Attribute}
use Rattle.wesl_tree_syntax.specs.declared.declaration.GlobalDeclaration.{GlobalDeclaration}
use Rattle.wesl_tree_syntax.specs.declared.expression.Expression.{Expression}
use Rattle.wesl_tree_syntax.specs.declared.statement.Statement.{Statement}
use Rattle.wesl_visit_collect.specs.Picks.{picks}
use Rattle.wesl_visit_collect.specs.Sought.{Sought}

-- an expression without its span is no node of the four kinds
abbrev pub ExpressionsAreUnpicked : Type 0
ExpressionsAreUnpicked = (k : Sought) (e : Expression) → picks k (expression_view e).label ≡ false

-- a statement without its span is no node of the four kinds
abbrev pub StatementsAreUnpicked : Type 0
StatementsAreUnpicked = (k : Sought) (s : Statement) → picks k (statement_view s).label ≡ false

-- a single attribute without its span is no node of the four kinds
abbrev pub AttributesAreUnpicked : Type 0
AttributesAreUnpicked = (k : Sought) (a : Attribute) → picks k (attribute_view a).label ≡ false

-- a global declaration without its span is no node of the four kinds
abbrev pub GlobalsAreUnpicked : Type 0
GlobalsAreUnpicked = (k : Sought) (d : GlobalDeclaration) → picks k (global_view d).label ≡ false
