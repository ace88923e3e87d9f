-- What is promised of the parentheses of operands.
use Rattle.std.specs.Prelude.{◌≡◌, Bool, false, ◌&&◌, is_some, [], ◌∷◌}
use Rattle.wesl_tree_names.specs.Path.{Text}
use Rattle.wesl_tree_syntax.specs.Tree.{TreeOf, at, binary, expression_node, forest_of, indexing, kind, leaf, named_component, text, unary}
use Rattle.wesl_tree_syntax.specs.declared.expression.BinaryOperator.{BinaryOperator}
use Rattle.wesl_tree_syntax.specs.declared.expression.UnaryOperator.{UnaryOperator}
use Rattle.wesl_text_form.specs.Names.{is_name}
use Rattle.wesl_text_form.specs.Productions.{an_expression}
use Rattle.wesl_text_form.specs.Spelling.{Forest, Label, slots_as}
use Rattle.wesl_text_guard.specs.Parentheses.{tree_with_parentheses}

-- an expression at no place, by what stands below it, and by its label and what stands below that
abbrev pub expression_of : Forest → TreeOf Text
expression_of ts = record { label = at expression_node 0 0; children = ts }

abbrev pub operation_of : Label → Forest → TreeOf Text
operation_of l ts = expression_of (forest_of (record { label = l; children = ts } ∷ []))

-- whether an expression has a text with the parentheses of operands, but for how its comparisons are read
abbrev pub has_text : TreeOf Text → Bool
has_text t = is_some (slots_as an_expression (tree_with_parentheses false t))

-- An operation has a text exactly where its operands have: none is refused for how tightly an operand holds together.
abbrev pub OperationsHaveTexts : Type 0
OperationsHaveTexts =
    ((o : UnaryOperator) (ts : Forest) → has_text (operation_of (unary o) (forest_of (expression_of ts ∷ []))) ≡ has_text (expression_of ts))
    × ((o : BinaryOperator) (ts us : Forest) → has_text (operation_of (binary o) (forest_of (expression_of ts ∷ expression_of us ∷ []))) ≡ (has_text (expression_of ts) && has_text (expression_of us)))

-- The same of an element, and of a component, whose name is to be a name.
abbrev pub PartsHaveTexts : Type 0
PartsHaveTexts =
    ((ts us : Forest) → has_text (operation_of (kind indexing) (forest_of (expression_of ts ∷ expression_of us ∷ []))) ≡ (has_text (expression_of ts) && has_text (expression_of us)))
    × ((ts : Forest) (n : Text) → has_text (operation_of (kind named_component) (forest_of (expression_of ts ∷ leaf (text n) ∷ []))) ≡ (has_text (expression_of ts) && is_name n))
