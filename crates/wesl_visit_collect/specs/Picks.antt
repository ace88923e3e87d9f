-- Which nodes are of a kind. Labels come first, so that it is told at each label whatever is looked for.
use Rattle.std.specs.Prelude.{Bool, true, false}
use Rattle.wesl_tree_syntax.specs.Tree.{Label, kind, at, expression_node, statement_node, attributes, type_expression}
use Rattle.wesl_visit_collect.specs.Sought.{Sought, expressions, types, statements, attribute_lists}

-- whether a visit looks for expressions, for types, for statements and for lists of attributes:
abbrev pub seeks_expressions : Sought → Bool
seeks_expressions expressions = true
seeks_expressions _ = false

abbrev pub seeks_types : Sought → Bool
seeks_types types = true
seeks_types _ = false

abbrev pub seeks_statements : Sought → Bool
seeks_statements statements = true
seeks_statements _ = false

abbrev pub seeks_attributes : Sought → Bool
seeks_attributes attribute_lists = true
seeks_attributes _ = false

-- Whether a label is that of a node of the kind that a visit looks for. Of an expression and of a statement it is the label
-- with the span; the label below it, which tells what sort of expression or statement it is, is of no kind.
abbrev pub picks : Sought → Label → Bool
picks k (at expression_node s e) = seeks_expressions k
picks k (at statement_node s e) = seeks_statements k
picks k (kind type_expression) = seeks_types k
picks k (kind attributes) = seeks_attributes k
picks k _ = false
