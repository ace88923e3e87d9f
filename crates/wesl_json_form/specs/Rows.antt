-- Rows, by computation: a constant with its spans, and single nodes: what is read, what is refused, and what each is written as.
use Rattle.std.specs.Prelude.{◌≡◌, ◌<◌, ℕ, [], ◌∷◌, Bool, true, false, Some, None, codes}
use Rattle.serde_json.specs.Data.{Data, boolean, string, array, object, number, unsigned, no_items, item, Members, no_members, member, depth}
use Rattle.wesl_tree_names.specs.Path.{Text}
use Rattle.wesl_tree_syntax.specs.Tree.{TreeOf, branch, leaf as leaf_tree, kind, at, ident, binder, reference, truth, forest_of, declaration_node, expression_node, attribute_node, statement_node, declaration, const_kind, attributes, absent, present, list, literal, type_or_identifier, type_expression, template_argument, expression_case, fragment, void, imports, directive_list, declarations, unit}
use Rattle.wesl_tree_syntax.specs.Unit.{UnitView, spelled}
use Rattle.wesl_tree_syntax.specs.Shown.{placed}
use Rattle.wesl_json_form.specs.Schema.{Spelled, leaf_of, labelled, Form, node, a_unit, a_declaration, an_attribute, an_expression, a_type, a_template_argument, a_case, a_statement}
use Rattle.wesl_json_form.specs.Nodes.{whole_form}
use Rattle.wesl_json_form.specs.Reading.{reading}
use Rattle.wesl_json_form.specs.Writing.{written}
use Rattle.wesl_json_form.specs.Units.{unit_tree, form_of, unit_value, unit_value_2}

-- a span as data
abbrev pub span_data : ℕ → ℕ → Data
span_data s e = array (item (number (unsigned s)) (item (number (unsigned e)) no_items))

-- {"declarations":[{"init":{"name":"y","span":[10,11]},"k":"const","name":"x","span":[0,12]}],"form":2}
abbrev pub constant_data_2 : Data
constant_data_2 = object (member (codes "declarations") (array (item (object (
    member (codes "init") (object (member (codes "name") (string (codes "y")) (member (codes "span") (span_data 10 11) no_members))) (
    member (codes "k") (string (codes "const")) (
    member (codes "name") (string (codes "x")) (
    member (codes "span") (span_data 0 12) no_members))))) no_items)) (
    member (codes "form") (number (unsigned 2)) no_members))

-- {"declarations":[{"init":"y","k":"const","name":"x"}]}
abbrev pub constant_data_1 : Data
constant_data_1 = object (member (codes "declarations") (array (item (object (
    member (codes "init") (string (codes "y")) (
    member (codes "k") (string (codes "const")) (
    member (codes "name") (string (codes "x")) no_members)))) no_items)) no_members)

module _ {I : Type 0} (x y : I) (s e a b : ℕ) where
  -- `const x = y;`, with these spans
  abbrev pub const_tree : TreeOf I
  const_tree = record {
    label = at declaration_node s e;
    children = forest_of (branch declaration (
        branch attributes [] ∷ leaf_tree (kind const_kind) ∷ leaf_tree (ident binder x) ∷ leaf_tree (kind absent)
        ∷ branch present (record {
          label = at expression_node a b;
          children = forest_of (branch type_or_identifier (branch type_expression
              (leaf_tree (kind absent) ∷ leaf_tree (ident reference y) ∷ leaf_tree (kind absent) ∷ []) ∷ []) ∷ []);
        } ∷ [])
        ∷ []) ∷ []);
  }

-- the unit with this one constant, with `x` as its name at 0 and `y` at 1
abbrev pub constant_unit : UnitView
constant_unit = record { names = codes "x" ∷ codes "y" ∷ []; imports = branch imports []; directives = branch directive_list []; declarations = branch declarations (const_tree 0 1 0 12 10 11 ∷ []) }

-- the row is read as the unit with its spans, at each number of levels above its depth
abbrev pub ConstantIsRead : Type 0
ConstantIsRead = (n : ℕ) → depth constant_data_2 < n → reading (form_of constant_data_2) n (node a_unit) constant_data_2 ≡ Some (unit_tree (placed constant_unit))

-- without spans as its spelling
abbrev pub ConstantIsReadBare : Type 0
ConstantIsReadBare = (n : ℕ) → depth constant_data_1 < n → reading (form_of constant_data_1) n (node a_unit) constant_data_1 ≡ Some (unit_tree (spelled constant_unit))

-- and the unit is written as them
abbrev pub ConstantIsWritten : Type 0
ConstantIsWritten = (unit_value_2 constant_unit ≡ constant_data_2) × (unit_value constant_unit ≡ constant_data_1)

-- the member `span` alone; in all rows members stand in the order of their keys
abbrev pub only_span : ℕ → ℕ → Members
only_span s e = member (codes "span") (span_data s e) no_members

-- an object with this word at `k`, and these members behind it
abbrev pub is_k : Text → Members → Data
is_k w ms = object (member (codes "k") (string w) ms)

-- form 2 reads the value as this tree, and writes the tree as this value
abbrev pub Kept : Form → Data → Spelled → Type 0
Kept f d t = (reading (whole_form true) 6 f d ≡ Some t) × (written true f t ≡ d)

-- the value is not read: by form 2 where the flag is true, else by form 1
abbrev pub Refused : Bool → Form → Data → Type 0
Refused spans f d = reading (whole_form spans) 6 f d ≡ None

-- what small rows are made of: trees of a truth value, a type and an identifier, and the object that the last is read from:
abbrev pub truth_tree : Bool → ℕ → ℕ → Spelled
truth_tree b s e = labelled (at expression_node s e) (branch literal (leaf_of (truth b) ∷ []) ∷ [])

abbrev pub type_tree : Text → Spelled
type_tree s = branch type_expression (leaf_of (kind absent) ∷ leaf_of (ident reference s) ∷ leaf_of (kind absent) ∷ [])

abbrev pub named_tree : Text → ℕ → ℕ → Spelled
named_tree s a b = labelled (at expression_node a b) (branch type_or_identifier (type_tree s ∷ []) ∷ [])

abbrev pub named_data : Text → ℕ → ℕ → Data
named_data s a b = object (member (codes "name") (string s) (only_span a b))

-- {"args":[{"name":"u32","span":[1,2]}],"name":"f32","span":[0,9]} and the same without the outer span
abbrev pub typed_data : Members → Data
typed_data ms = object (member (codes "args") (array (item (named_data (codes "u32") 1 2) no_items)) (member (codes "name") (string (codes "f32")) ms))

-- the tree of this type, in which the argument alone has a span
abbrev pub typed_tree : Spelled
typed_tree = branch type_expression (leaf_of (kind absent) ∷ leaf_of (ident reference (codes "f32"))
    ∷ branch present (branch list (branch template_argument (named_tree (codes "u32") 1 2 ∷ []) ∷ []) ∷ []) ∷ [])

-- truth values and attributes without operand as objects
abbrev pub WordsAreObjects : Type 0
WordsAreObjects =
    Kept (node an_expression) (is_k (codes "true") (only_span 4 8)) (truth_tree true 4 8)
    × Kept (node an_expression) (is_k (codes "false") (only_span 4 8)) (truth_tree false 4 8)
    × (reading (whole_form true) 6 (node an_expression) (is_k (codes "true") no_members) ≡ Some (truth_tree true 0 0))
    × Kept (node an_expression) (boolean true) (truth_tree true 0 0)
    × (written false (node an_expression) (truth_tree true 4 8) ≡ boolean true)
    × Kept (node an_attribute) (is_k (codes "fragment") (only_span 0 9)) (labelled (at attribute_node 0 9) (leaf_of (kind fragment) ∷ []))
    × (reading (whole_form true) 6 (node an_attribute) (is_k (codes "fragment") no_members) ≡ Some (labelled (at attribute_node 0 0) (leaf_of (kind fragment) ∷ [])))
    × Kept (node an_attribute) (string (codes "fragment")) (labelled (at attribute_node 0 0) (leaf_of (kind fragment) ∷ []))

-- such objects, and spans, are refused in form 1
abbrev pub WordsAreUnknown : Type 0
WordsAreUnknown =
    Refused false (node an_expression) (is_k (codes "true") no_members)
    × Refused false (node an_attribute) (is_k (codes "fragment") no_members)
    × Refused false (node an_expression) (named_data (codes "y") 1 2)

-- a type has a span in the place of an expression, a template argument and a case too, and none in the place of a type
abbrev pub TypesArePlaced : Type 0
TypesArePlaced =
    Kept (node an_expression) (named_data (codes "y") 10 11) (named_tree (codes "y") 10 11)
    × Kept (node an_expression) (string (codes "y")) (named_tree (codes "y") 0 0)
    × Kept (node a_template_argument) (named_data (codes "y") 10 11) (branch template_argument (named_tree (codes "y") 10 11 ∷ []))
    × Kept (node a_case) (named_data (codes "y") 10 11) (branch expression_case (named_tree (codes "y") 10 11 ∷ []))
    × Kept (node a_case) (is_k (codes "true") (only_span 1 5)) (branch expression_case (truth_tree true 1 5 ∷ []))
    × Kept (node an_expression) (typed_data (only_span 0 9)) (labelled (at expression_node 0 9) (branch type_or_identifier (typed_tree ∷ []) ∷ []))
    × Kept (node a_type) (typed_data no_members) typed_tree
    × Refused true (node a_type) (typed_data (only_span 0 9))
    × Refused true (node a_type) (named_data (codes "y") 10 11)

-- a void with this value at `span`
abbrev pub void_data : Data → Data
void_data d = is_k (codes "void") (member (codes "span") d no_members)

-- a span may be empty, and end at 4294967295; none is read that falls, ends later, or is no list of two whole numbers
abbrev pub SpansAreOrdered : Type 0
SpansAreOrdered =
    Kept (node a_declaration) (void_data (span_data 4294967295 4294967295)) (labelled (at declaration_node 4294967295 4294967295) (branch void [] ∷ []))
    × Kept (node a_statement) (void_data (span_data 7 7)) (labelled (at statement_node 7 7) (branch void [] ∷ []))
    × (reading (whole_form true) 6 (node a_declaration) (void_data (span_data 0 0)) ≡ Some (labelled (at declaration_node 0 0) (branch void [] ∷ [])))
    × Refused true (node a_declaration) (void_data (span_data 0 4294967296))
    × Refused true (node a_declaration) (void_data (span_data 2 1))
    × Refused true (node a_declaration) (void_data (string (codes "x")))
    × Refused true (node a_declaration) (void_data (array (item (number (unsigned 0)) no_items)))
    × Refused true (node a_declaration) (void_data (array (item (number (unsigned 0)) (item (number (unsigned 1)) (item (number (unsigned 2)) no_items)))))
    × Refused true (node a_declaration) (void_data (array no_items))

-- a span that falls is written as it is, and not read
abbrev pub FallingIsWritten : Type 0
FallingIsWritten = written true (node a_declaration) (labelled (at declaration_node 2 1) (branch void [] ∷ [])) ≡ void_data (span_data 2 1)

-- an object with this value at `form` and nothing else
abbrev pub form_data : Data → Data
form_data d = object (member (codes "form") d no_members)

-- the tree of a unit without imports, directives and declarations
abbrev pub empty_tree : Spelled
empty_tree = branch unit (branch imports [] ∷ branch directive_list [] ∷ branch declarations [] ∷ [])

-- in form 2 `form` must be there and be 2, in form 1 it must not be there
abbrev pub FormIsTwo : Type 0
FormIsTwo =
    Kept (node a_unit) (form_data (number (unsigned 2))) empty_tree
    × (written false (node a_unit) empty_tree ≡ object no_members)
    × (reading (whole_form false) 6 (node a_unit) (object no_members) ≡ Some empty_tree)
    × Refused true (node a_unit) (form_data (number (unsigned 1)))
    × Refused true (node a_unit) (form_data (number (unsigned 3)))
    × Refused true (node a_unit) (form_data (string (codes "2")))
    × Refused true (node a_unit) (form_data (array (item (number (unsigned 2)) no_items)))
    × Refused true (node a_unit) (object no_members)
    × Refused false (node a_unit) (form_data (number (unsigned 2)))
