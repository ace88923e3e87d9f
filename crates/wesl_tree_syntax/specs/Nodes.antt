-- Nodes and identifiers of a tree, in document order: a node before its children, children in the order of their fields.
use Rattle.std.specs.Prelude.{Bool, true, false, List, [], ◌∷◌, ◌++◌, if◌then◌else◌}
use Rattle.wesl_tree_syntax.specs.Tree.{LabelOf, ForestOf, TreeOf, end, tree, kind, at, attributes, type_expression, expression_node, statement_node, if_attribute, elif_attribute, import_statement, diagnostic_directive, enable_directive, requires_directive}

module _ {I : Type 0} where
  -- whether a label is that of a type expression
  abbrev pub is_type : LabelOf I → Bool
  is_type (kind type_expression) = true
  is_type _ = false

  -- whether a label is that of an expression with its span; the expression without it is the one child
  abbrev pub is_expression : LabelOf I → Bool
  is_expression (at expression_node _ _) = true
  is_expression _ = false

  -- whether a label is that of a statement with its span; the statement without it is the one child
  abbrev pub is_statement : LabelOf I → Bool
  is_statement (at statement_node _ _) = true
  is_statement _ = false

  -- whether a label is that of a list of attributes
  abbrev pub is_attributes : LabelOf I → Bool
  is_attributes (kind attributes) = true
  is_attributes _ = false

  -- whether a label is that of `@if` or `@elif`, whose one child is the formula
  abbrev pub is_formula : LabelOf I → Bool
  is_formula (kind if_attribute) = true
  is_formula (kind elif_attribute) = true
  is_formula _ = false

  -- whether a label is that of an import statement or a directive, without its span
  abbrev pub is_import_or_directive : LabelOf I → Bool
  is_import_or_directive (kind import_statement) = true
  is_import_or_directive (kind diagnostic_directive) = true
  is_import_or_directive (kind enable_directive) = true
  is_import_or_directive (kind requires_directive) = true
  is_import_or_directive _ = false

  -- the outermost nodes whose labels pass a test: those inside no other such node
  abbrev pub outermost : (LabelOf I → Bool) → ForestOf I → List (TreeOf I)
  outermost p end = []
  outermost p (tree l children others) = (if p l then record { label = l; children = children } ∷ [] else outermost p children) ++ outermost p others

  -- all nodes whose labels pass a test, a node before the nodes in it
  abbrev pub all_nodes : (LabelOf I → Bool) → ForestOf I → List (TreeOf I)
  all_nodes p end = []
  all_nodes p (tree l children others) = (if p l then record { label = l; children = children } ∷ [] else []) ++ all_nodes p children ++ all_nodes p others

  -- trees side by side where those that are lists of attributes are emptied; nothing changes below the others
  abbrev pub without_attributes : ForestOf I → ForestOf I
  without_attributes end = end
  without_attributes (tree l children others) = tree l (if is_attributes l then end else children) (without_attributes others)

  -- trees without the formulas of `@if` and `@elif`, and with empty lists of attributes at imports and directives
  abbrev pub without_words : ForestOf I → ForestOf I
  without_words end = end
  without_words (tree l children others) =
      tree l (if is_formula l then end else if is_import_or_directive l then without_attributes (without_words children) else without_words children) (without_words others)
