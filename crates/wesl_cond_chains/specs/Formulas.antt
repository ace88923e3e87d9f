-- Formulas over flags: how an expression reads as one, and how one is written as an expression.
use Rattle.std.specs.Prelude.{List, [], ◌∷◌, Bool, true, false, not, ◌&&◌, ◌||◌, Option, Some, None}
use Rattle.wesl_tree_base.specs.declared.span.Span.{Span}
use Rattle.wesl_tree_syntax.specs.Tree.{LabelOf, ForestOf, TreeOf, end, tree, kind, at, ident, truth, unary, binary, expression_node, literal as literal_kind, parenthesized as parenthesized_kind, type_or_identifier, present}
use Rattle.wesl_tree_syntax.specs.declared.expression.UnaryOperator.TheVariants.{LogicalNegation}
use Rattle.wesl_tree_syntax.specs.declared.expression.BinaryOperator.TheVariants.{ShortCircuitAnd, ShortCircuitOr}

-- A formula, where a flag is an `I`, with the span of each operand.
pub data Form (I : Type 0) : Type 0 where
  always : Form I
  never : Form I
  -- an identifier, and the trees that it stands in
  flag : I → ForestOf I → Form I
  -- an identifier with template arguments
  templated : I → ForestOf I → Form I
  within : Span → Form I → Form I
  negation : Span → Form I → Form I
  conjunction : Span → Form I → Span → Form I → Form I
  disjunction : Span → Form I → Span → Form I → Form I
  -- any other expression, which is no formula
  other : LabelOf I → ForestOf I → Form I

-- a formula with the span of its expression
pub record Spot (I : Type 0) : Type 0 where
  pub span : Span
  pub form : Form I

-- the span `0..0`, of what has no place
abbrev pub nowhere : Span
nowhere = record { start = 0; end = 0 }

module _ {I : Type 0} where
  -- the identifier of a type expression, whatever its path
  abbrev pub type_name : ForestOf I → Option I
  type_name (tree t (tree p path (tree (ident r name) below arguments)) others) = Some name
  type_name _ = None

  -- whether a type expression has template arguments; an empty list of them counts too
  abbrev pub has_arguments : ForestOf I → Bool
  has_arguments (tree t (tree p path (tree i below (tree (kind present) list rest))) others) = true
  has_arguments _ = false

  -- what a name reads as: a flag, or one with template arguments; where there is no name, no formula
  abbrev pub named_as : Option I → Bool → ForestOf I → Form I
  named_as None arguments c = other (kind type_or_identifier) c
  named_as (Some name) true c = templated name c
  named_as (Some name) false c = flag name c

  -- one expression, the operands of which read as these
  abbrev pub reading : LabelOf I → ForestOf I → List (Spot I) → Form I
  reading (kind literal_kind) (tree (truth true) end end) xs = always
  reading (kind literal_kind) (tree (truth false) end end) xs = never
  reading (kind parenthesized_kind) c (x ∷ []) = within x.span x.form
  reading (kind type_or_identifier) c xs = named_as (type_name c) (has_arguments c) c
  reading (unary LogicalNegation) c (x ∷ []) = negation x.span x.form
  reading (binary ShortCircuitAnd) c (x ∷ y ∷ []) = conjunction x.span x.form y.span y.form
  reading (binary ShortCircuitOr) c (x ∷ y ∷ []) = disjunction x.span x.form y.span y.form
  reading l c xs = other l c

  -- how each tree reads; the node of an expression has its span
  abbrev pub spots : ForestOf I → List (Spot I)
  spots end = []
  spots (tree (at expression_node s e) (tree l c end) others) = record { span = record { start = s; end = e }; form = reading l c (spots c) } ∷ spots others
  spots (tree l c others) = record { span = nowhere; form = reading l c (spots c) } ∷ spots others

  -- how an expression without its span reads
  abbrev pub form : TreeOf I → Form I
  form t = reading t.label t.children (spots t.children)

  -- an expression with its span, before other trees
  abbrev pub spot : Span → TreeOf I → ForestOf I → ForestOf I
  spot p t others = tree (at expression_node p.start p.end) (tree t.label t.children end) others

  -- the expression that reads as a formula
  abbrev pub written : Form I → TreeOf I
  written always = record { label = kind literal_kind; children = tree (truth true) end end }
  written never = record { label = kind literal_kind; children = tree (truth false) end end }
  written (flag name c) = record { label = kind type_or_identifier; children = c }
  written (templated name c) = record { label = kind type_or_identifier; children = c }
  written (within p f) = record { label = kind parenthesized_kind; children = spot p (written f) end }
  written (negation p f) = record { label = unary LogicalNegation; children = spot p (written f) end }
  written (conjunction p f q g) = record { label = binary ShortCircuitAnd; children = spot p (written f) (spot q (written g) end) }
  written (disjunction p f q g) = record { label = binary ShortCircuitOr; children = spot p (written f) (spot q (written g) end) }
  written (other l c) = record { label = l; children = c }

  -- the value of a formula where each flag is true or false
  abbrev pub value_under : (I → Bool) → Form I → Bool
  value_under choice always = true
  value_under choice never = false
  value_under choice (flag name c) = choice name
  value_under choice (templated name c) = false
  value_under choice (within p f) = value_under choice f
  value_under choice (negation p f) = not (value_under choice f)
  value_under choice (conjunction p f q g) = value_under choice f && value_under choice g
  value_under choice (disjunction p f q g) = value_under choice f || value_under choice g
  value_under choice (other l c) = false
