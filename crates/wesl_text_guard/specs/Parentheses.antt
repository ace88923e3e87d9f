-- Which parentheses a text needs that a tree does not have (WGSL, "Expression Grammar Summary", "Template Lists").
use Rattle.std.specs.Prelude.{Bool, true, false, not, ◌&&◌, if◌then◌else◌, Option, Some, None}
use Rattle.wesl_tree_syntax.specs.Tree.{LabelOf, ForestOf, TreeOf, before, end, tree, kind, present, unary, binary, parenthesized, named_component, indexing, list, template_argument, expression_case, workgroup_size}
use Rattle.wesl_tree_syntax.specs.Nodes.{is_expression}
use Rattle.wesl_tree_syntax.specs.declared.expression.BinaryOperator.{BinaryOperator}
use Rattle.wesl_tree_syntax.specs.declared.expression.BinaryOperator.TheVariants as binary_operator
use Rattle.wesl_text_form.specs.Operators.{Class, primary, same_class, class_of, operator_class, is_tight, takes_left, takes_right}

-- the operations that have a sign `<` or `>` in them, and those that may join such: `<`, `<=`, `>`, `>=`, `<<`, `>>`, `&&`, `||`
abbrev pub is_angled : BinaryOperator → Bool
is_angled binary_operator.LessThan = true
is_angled binary_operator.LessThanEqual = true
is_angled binary_operator.GreaterThan = true
is_angled binary_operator.GreaterThanEqual = true
is_angled binary_operator.ShiftLeft = true
is_angled binary_operator.ShiftRight = true
is_angled binary_operator.ShortCircuitAnd = true
is_angled binary_operator.ShortCircuitOr = true
is_angled _ = false

module _ {I : Type 0} where
  -- the label of the first tree; none where there is no tree
  abbrev pub first_label : ForestOf I → Option (LabelOf I)
  first_label end = None
  first_label (tree l children others) = Some l

  -- whether an expression with this label is such an operation
  abbrev pub is_angled_operation : Option (LabelOf I) → Bool
  is_angled_operation (Some (binary o)) = is_angled o
  is_angled_operation _ = false

  -- what stands below the span of an expression in parentheses: what is in them has the same span
  abbrev pub enclosed : LabelOf I → ForestOf I → ForestOf I
  enclosed l children = tree (kind parenthesized) (tree l children end) end

  -- a tree; an expression whose label does not pass the test is in parentheses
  abbrev pub fit : (Option (LabelOf I) → Bool) → TreeOf I → TreeOf I
  fit fits t = record t { children = if is_expression t.label && not (fits (first_label t.children)) then enclosed t.label t.children else t.children }

  -- trees side by side, of which the first is so made to fit
  abbrev pub first_fits : (Option (LabelOf I) → Bool) → ForestOf I → ForestOf I
  first_fits fits end = end
  first_fits fits (tree l children others) = before (fit fits (record { label = l; children = children })) others

  -- an option, in which an expression is so made to fit
  abbrev pub is_present : LabelOf I → Bool
  is_present (kind present) = true
  is_present _ = false

  abbrev pub fit_option : (Option (LabelOf I) → Bool) → TreeOf I → TreeOf I
  fit_option fits t = record t { children = if is_present t.label then first_fits fits t.children else t.children }

  -- the same of the second tree, of each, and of the options behind the first
  abbrev pub second_fits : (Option (LabelOf I) → Bool) → ForestOf I → ForestOf I
  second_fits fits end = end
  second_fits fits (tree l children others) = tree l children (first_fits fits others)

  abbrev pub each_fits : (Option (LabelOf I) → Bool) → ForestOf I → ForestOf I
  each_fits fits end = end
  each_fits fits (tree l children others) = before (fit fits (record { label = l; children = children })) (each_fits fits others)

  abbrev pub options_fit : (Option (LabelOf I) → Bool) → ForestOf I → ForestOf I
  options_fit fits end = end
  options_fit fits (tree l children others) = before (fit_option fits (record { label = l; children = children })) (options_fit fits others)

  abbrev pub others_fit : (Option (LabelOf I) → Bool) → ForestOf I → ForestOf I
  others_fit fits end = end
  others_fit fits (tree l children others) = tree l children (options_fit fits others)

-- Parentheses round operands that their operations do not take without; and where comparisons are guarded, also round each operation
-- with a `<` or `>` that is an operand, an index, a selector, or stands in a list.
module _ (comparisons : Bool) where
  -- whether an item of a list stands without parentheses
  abbrev pub stands_listed : {I : Type 0} → Option (LabelOf I) → Bool
  stands_listed l = not (comparisons && is_angled_operation l)

  -- whether an operand does, where its operation takes operands of some classes
  abbrev pub stands_as_operand : {I : Type 0} → (Class → Bool) → Option (LabelOf I) → Bool
  stands_as_operand takes l = takes (class_of l) && stands_listed l

  -- what stands below a node, with the parentheses that the node asks for
  abbrev pub fitted : {I : Type 0} → LabelOf I → ForestOf I → ForestOf I
  fitted (unary o) ts = first_fits (stands_as_operand is_tight) ts
  fitted (binary o) ts = second_fits (stands_as_operand (takes_right (operator_class o))) (first_fits (stands_as_operand (takes_left (operator_class o))) ts)
  fitted (kind named_component) ts = first_fits (stands_as_operand (same_class primary)) ts
  fitted (kind indexing) ts = second_fits stands_listed (first_fits (stands_as_operand (same_class primary)) ts)
  fitted (kind list) ts = each_fits stands_listed ts
  fitted (kind template_argument) ts = first_fits stands_listed ts
  fitted (kind expression_case) ts = first_fits stands_listed ts
  fitted (kind workgroup_size) ts = others_fit stands_listed (first_fits stands_listed ts)
  fitted _ ts = ts

  -- trees side by side with all these parentheses
  abbrev pub with_parentheses : {I : Type 0} → ForestOf I → ForestOf I
  with_parentheses end = end
  with_parentheses (tree l children others) = tree l (fitted l (with_parentheses children)) (with_parentheses others)

  -- one tree with them
  abbrev pub tree_with_parentheses : {I : Type 0} → TreeOf I → TreeOf I
  tree_with_parentheses t = record { label = t.label; children = fitted t.label (with_parentheses t.children) }
