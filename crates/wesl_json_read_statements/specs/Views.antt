-- The tree of what stands in modules and in functions.
use Rattle.std.specs.Prelude.{[], Vec}
use Rattle.wesl_tree_syntax.specs.Tree.{Tree, branch, statements, void}
use Rattle.std.specs.Box.{box_value}
use Rattle.std.specs.Global.{Box, Global}
use Rattle.wesl_tree_syntax.specs.View.{assert_view, declaration_view, listed, statement_tree}
use Rattle.wesl_tree_syntax.specs.declared.statement.Statement.{Statement}
use Rattle.wesl_tree_syntax.specs.declared.span.Spanned.{Spanned}
use Rattle.wesl_json_read_statements.specs.declared.declared.Declared.{Declared}
use Rattle.wesl_json_read_statements.specs.declared.declared.Declared.TheVariants as kinds

-- the tree of a void, of a declaration of a value or a variable, and of an assertion
abbrev pub declared_view : Declared → Tree
declared_view kinds.Void = branch void []
declared_view (kinds.Declaration d) = declaration_view d
declared_view (kinds.Assert c) = assert_view c

-- the tree of a list of statements
abbrev pub statements_tree : Vec (Spanned Statement) Global → Tree
statements_tree = listed statement_tree statements

-- the tree of a statement in a box
abbrev pub boxed_statement : Box (Spanned Statement) → Tree
boxed_statement b = statement_tree (box_value b)
