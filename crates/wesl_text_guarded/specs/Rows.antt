-- Trees without parentheses, and the texts that say what is printed for them.
use Rattle.std.specs.Prelude.{◌≡◌, List, [], ◌∷◌, codes}
use Rattle.wesl_tree_names.specs.Path.{Text}
use Rattle.wesl_tree_syntax.specs.Tree.{TreeOf, absent, at, attributes, binary, binder, branch, call, call_expression, const_kind, declaration, declaration_node, declarations, directive_list, expression_node, forest_of, ident, imports, indexing, leaf, list, named_component, parenthesized, present, reference, template_argument, text, type_expression, type_or_identifier, unary}
use Rattle.wesl_tree_syntax.specs.Unit.{UnitOf}
use Rattle.wesl_tree_syntax.specs.declared.expression.BinaryOperator.{BinaryOperator}
use Rattle.wesl_tree_syntax.specs.declared.expression.BinaryOperator.TheVariants as binary_operator
use Rattle.wesl_tree_syntax.specs.declared.expression.UnaryOperator.TheVariants as unary_operator
use Rattle.wesl_text_tokens.specs.Tokens.{tokens}
use Rattle.wesl_text_form.specs.Says.{spelling}
use Rattle.wesl_text_guarded.specs.Guarded.{guarded}

-- Expressions, each at a place: names, operations, components, elements, in parentheses, calls, and names with a template argument:
abbrev pub placed : TreeOf Text → TreeOf Text
placed t = record { label = at expression_node 0 0; children = forest_of (t ∷ []) }

abbrev pub name : Text → TreeOf Text
name t = placed (branch type_or_identifier (branch type_expression (branch absent [] ∷ leaf (ident reference t) ∷ branch absent [] ∷ []) ∷ []))

abbrev pub operation : BinaryOperator → TreeOf Text → TreeOf Text → TreeOf Text
operation o s t = placed (record { label = binary o; children = forest_of (s ∷ t ∷ []) })

abbrev pub negation : TreeOf Text → TreeOf Text
negation t = placed (record { label = unary unary_operator.Negation; children = forest_of (t ∷ []) })

abbrev pub component : TreeOf Text → Text → TreeOf Text
component t n = placed (branch named_component (t ∷ leaf (text n) ∷ []))

abbrev pub element : TreeOf Text → TreeOf Text → TreeOf Text
element s t = placed (branch indexing (s ∷ t ∷ []))

abbrev pub enclosed : TreeOf Text → TreeOf Text
enclosed t = placed (branch parenthesized (t ∷ []))

abbrev pub called : Text → List (TreeOf Text) → TreeOf Text
called f ts = placed (branch call_expression (branch call (branch type_expression (branch absent [] ∷ leaf (ident reference f) ∷ branch absent [] ∷ []) ∷ branch list ts ∷ []) ∷ []))

abbrev pub templated : Text → TreeOf Text → TreeOf Text
templated f t =
    placed (branch type_or_identifier
    (branch type_expression (branch absent [] ∷ leaf (ident reference f) ∷ branch present (branch list (branch template_argument (t ∷ []) ∷ []) ∷ []) ∷ []) ∷ []))

-- a constant with this value
abbrev pub declared : TreeOf Text → TreeOf Text
declared t =
    record {
      label = at declaration_node 0 0;
      children = forest_of (branch declaration
          (branch attributes [] ∷ branch const_kind [] ∷ leaf (ident binder (codes "x")) ∷ branch absent [] ∷ branch present (t ∷ []) ∷ []) ∷ []);
    }

-- a unit with one constant
abbrev pub constant : TreeOf Text → UnitOf Text
constant t = record {
  imports = branch imports [];
  directives = branch directive_list [];
  declarations = branch declarations (declared t ∷ []);
}

-- the constant is printed as tokens that are those of the text
abbrev pub IsPrintedAs : TreeOf Text → Text → Type 0
IsPrintedAs t wanted = spelling (guarded (constant t)) ≡ tokens wanted

-- operands get parentheses where their operations do not take them without
abbrev pub OperandsAreEnclosed : Type 0
OperandsAreEnclosed =
    IsPrintedAs (operation binary_operator.Multiplication (operation binary_operator.Addition (name (codes "a")) (name (codes "b"))) (name (codes "c"))) (codes "const x = (a + b) * c;")
    × IsPrintedAs (operation binary_operator.Subtraction (name (codes "a")) (operation binary_operator.Subtraction (name (codes "b")) (name (codes "c")))) (codes "const x = a - (b - c);")
    × IsPrintedAs (operation binary_operator.ShortCircuitOr (name (codes "a")) (operation binary_operator.ShortCircuitAnd (name (codes "b")) (name (codes "c")))) (codes "const x = a || (b && c);")
    × IsPrintedAs (negation (operation binary_operator.Addition (name (codes "a")) (negation (name (codes "b"))))) (codes "const x = -(a + -b);")
    × IsPrintedAs (component (negation (name (codes "a"))) (codes "y")) (codes "const x = (-a).y;")
    × IsPrintedAs (element (operation binary_operator.Addition (name (codes "a")) (name (codes "b"))) (operation binary_operator.Addition (name (codes "i")) (name (codes "j"))))
    (codes "const x = (a + b)[i + j];")

-- others stay as they are
abbrev pub OthersStay : Type 0
OthersStay =
    IsPrintedAs (operation binary_operator.Subtraction (operation binary_operator.Subtraction (name (codes "a")) (name (codes "b"))) (name (codes "c"))) (codes "const x = a - b - c;")
    × IsPrintedAs (operation binary_operator.Multiplication (enclosed (operation binary_operator.Addition (name (codes "a")) (name (codes "b")))) (name (codes "c"))) (codes "const x = (a + b) * c;")
    × IsPrintedAs (called (codes "f") (operation binary_operator.LessThan (name (codes "a")) (name (codes "b")) ∷ name (codes "c") ∷ [])) (codes "const x = f(a < b, c);")

-- comparisons get parentheses where they would be read as a template list, and where they would end one
abbrev pub ComparisonsAreEnclosed : Type 0
ComparisonsAreEnclosed =
    IsPrintedAs (called (codes "f") (operation binary_operator.LessThan (name (codes "a")) (name (codes "b")) ∷ operation binary_operator.GreaterThan (name (codes "c")) (name (codes "d")) ∷ []))
    (codes "const x = f((a < b), (c > d));")
    × IsPrintedAs (operation binary_operator.LessThan (name (codes "a")) (operation binary_operator.ShiftRight (name (codes "b")) (name (codes "c")))) (codes "const x = a < (b >> c);")
    × IsPrintedAs (templated (codes "t") (operation binary_operator.GreaterThan (name (codes "a")) (name (codes "b")))) (codes "const x = t<(a > b)>;")
