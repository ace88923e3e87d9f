-- What visits look for.
use Rattle.std.specs.Prelude.{Bool}
use Rattle.wesl_tree_syntax.specs.Tree.{Label}
use Rattle.wesl_tree_syntax.specs.Nodes.{is_type, is_expression, is_statement, is_attributes}

-- the four kinds of node
pub data Sought : Type 0 where
  expressions : Sought
  types : Sought
  statements : Sought
  attribute_lists : Sought

-- whether a label is that of a node of the kind that a visit looks for
abbrev pub test : Sought → Label → Bool
test expressions = is_expression
test types = is_type
test statements = is_statement
test attribute_lists = is_attributes
