-- The value that a tree is written as: short forms wherever they exist, no empty list, no absent option.
use Rattle.std.specs.Prelude.{codes, ℕ, zero, suc, List, [], ◌∷◌, ◌++◌, Bool, true, false, ◌&&◌, if◌then◌else◌, is_some, Option, Some, None, option_map, option_and_then, map, not, ◌==◌}
use denote.Enum.Bare.{sameb}
use mathlib.Core.Bool.{beq}
use Rattle.serde_json.specs.Data.{Data, null, boolean, string, array, object, Items, no_items, item, Members, no_members, put, number, unsigned}
use Rattle.wesl_tree_names.specs.Path.{Text}
use Rattle.wesl_tree_syntax.specs.Tree.{before, Kind, kind, at, ident, text, texts, truth, unary, binary, assignment, space, access, path, end, tree, absent, literal, type_or_identifier, expression_case, template_argument}
use Rattle.wesl_tree_syntax.specs.Kinds.{same_kind}
use Rattle.wesl_tree_syntax.specs.contracts.expression.UnaryOperator as unary_operator
use Rattle.wesl_tree_syntax.specs.contracts.expression.BinaryOperator as binary_operator
use Rattle.wesl_tree_syntax.specs.contracts.statement.AssignmentOperator as assignment_operator
use Rattle.wesl_tree_syntax.specs.contracts.declaration.AddressSpace as address_space
use Rattle.wesl_tree_syntax.specs.contracts.declaration.AccessMode as access_mode
use Rattle.wesl_tree_names.specs.PathText.{to_text}
use Rattle.wesl_json_form.specs.Schema.{Spelled, SpelledForest, SpelledLabel, Words, Leaf, one_of, Name, a_content, a_directive, a_declaration, a_statement, a_case, a_type, a_template_argument, an_expression, an_attribute, Form, leaf, list_of, node, Head, fixed, chosen, Row, nothing, marked, needs, may, many, given, inner, inner_where, Node, within, Extra, a_span, second_form, placed, beside}
use Rattle.wesl_json_form.specs.Words.{attribute_words}
use Rattle.wesl_json_form.specs.Nodes.{NodeWords, nodes_of, expression_words, type_or_identifier_node, attribute_nodes, declaration_words, statement_words, directive_words, collection_node, item_node, a_default_case, truth_words, plain_words}

-- ---- labels

-- The same kind (both with a span, whatever it is, or both without), operator, space, access mode or truth value. Labels
-- with a name, texts or a path are never the same.
abbrev pub same_label : SpelledLabel → SpelledLabel → Bool
same_label (kind a) (kind b) = same_kind a b
same_label (at a _ _) (at b _ _) = same_kind a b
same_label (unary x) (unary y) = sameb unary_operator.the_type x y
same_label (binary x) (binary y) = sameb binary_operator.the_type x y
same_label (assignment x) (assignment y) = sameb assignment_operator.the_type x y
same_label (space x) (space y) = sameb address_space.the_type x y
same_label (access x) (access y) = sameb access_mode.the_type x y
same_label (truth x) (truth y) = beq x y
same_label _ _ = false

-- the label of an option that is not there
abbrev pub is_absent : SpelledLabel → Bool
is_absent l = same_label (kind absent) l

-- the first word that stands for a label; none where there is none
abbrev pub word_of : Words → SpelledLabel → Option Text
word_of [] l = None
word_of (p ∷ ps) l = if same_label p.1 l then Some p.0 else word_of ps l

-- these texts as the items of a list
abbrev pub texts_value : List Text → Items
texts_value [] = no_items
texts_value (s ∷ ss) = item (string s) (texts_value ss)

-- the value of a label that is a name, a text, a list of texts, a truth value or a path; of any other `null`
abbrev pub label_value : SpelledLabel → Data
label_value (ident r s) = string s
label_value (text s) = string s
label_value (texts ss) = array (texts_value ss)
label_value (truth b) = boolean b
label_value (path p) = string (to_text p)
label_value _ = null

-- the text as a value, and `null` where there is none
abbrev pub text_or_null : Option Text → Data
text_or_null None = null
text_or_null (Some s) = string s

-- what a label is written as where such a leaf is asked: its word where the leaf has words, else its own value
abbrev pub leaf_value : Leaf → SpelledLabel → Data
leaf_value (one_of words) l = text_or_null (word_of words l)
leaf_value _ l = label_value l

-- ---- which node an object of a name is

-- the label may be that of a node with this head; a span does not matter
abbrev pub fits_head : Head → SpelledLabel → Bool
fits_head (fixed m) l = same_label m l
fits_head (chosen k words) l = is_some (word_of words l)
fits_head (placed spans k) l = same_label (at k 0 0) l

-- The trees may be the children that the row gives. There are as many; a child whose label is given has this label, and a
-- node made of members of the same object fits too. What stands at a key, or is an option, fits whatever it is.
abbrev pub fits_row : Row → SpelledForest → Bool
fits_row nothing end = true
fits_row nothing (tree l children others) = false
fits_row (marked k w row) ts = fits_row row ts
fits_row (beside b x row) ts = fits_row row ts
fits_row (needs k f row) end = false
fits_row (needs k f row) (tree l children others) = fits_row row others
fits_row (may k f row) end = false
fits_row (may k f row) (tree l children others) = fits_row row others
fits_row (many k f row) end = false
fits_row (many k f row) (tree l children others) = fits_row row others
fits_row (given m row) end = false
fits_row (given m row) (tree l children others) = same_label m l && fits_row row others
fits_row (inner h ins row) end = false
fits_row (inner h ins row) (tree l children others) = fits_head h l && fits_row ins children && fits_row row others
fits_row (inner_where k h ins row) end = false
fits_row (inner_where k h ins row) (tree l children others) = fits_row row others

-- the first of these nodes that a tree with this label and these children fits
abbrev pub first_fit : List Node → SpelledLabel → SpelledForest → Option Node
first_fit [] l children = None
first_fit (n ∷ ns) l children = if fits_head n.head l && fits_row n.row children then Some n else first_fit ns l children

-- the nodes, without their words
abbrev pub nodes_in : NodeWords → List Node
nodes_in words = map (λ p. p.1) words

-- the one node as a list; an empty list where there is none
abbrev pub only : Option Node → List Node
only None = []
only (Some n) = n ∷ []

module _ (spans : Bool) where
  -- all nodes that an expression may be; form 1 writes no truth value so, since it has a short form
  abbrev pub expression_nodes : List Node
  expression_nodes = nodes_in (truth_words spans) ++ (nodes_in (expression_words spans) ++ type_or_identifier_node spans ∷ [])

  -- the nodes that an object may be in the place of each name, in the order in which they are tried
  abbrev pub candidates : Name → List Node
  candidates a_content = collection_node ∷ item_node null ∷ []
  candidates a_directive = nodes_in (directive_words spans)
  candidates a_declaration = nodes_in (declaration_words spans)
  candidates a_statement = nodes_in (statement_words spans)
  candidates a_case = a_default_case ∷ map (within expression_case) expression_nodes
  candidates a_template_argument = map (within template_argument) expression_nodes
  candidates an_expression = expression_nodes
  candidates an_attribute = nodes_in (plain_words spans) ++ nodes_in (attribute_nodes spans)
  candidates m = only (nodes_of spans m null)

-- ---- short forms

-- the children of the first of these trees; none where there is no tree
abbrev pub children_of_first : SpelledForest → SpelledForest
children_of_first end = end
children_of_first (tree l children others) = children

-- the label of the tree at this index, counted from 0; none where there are too few trees
abbrev pub label_at : ℕ → SpelledForest → Option SpelledLabel
label_at n end = None
label_at zero (tree l children others) = Some l
label_at (suc n) (tree l children others) = label_at n others

-- the name of a label that is an identifier
abbrev pub ident_in : SpelledLabel → Option Text
ident_in (ident r s) = Some s
ident_in _ = None

-- the truth value of a label that is one
abbrev pub truth_in : SpelledLabel → Option Bool
truth_in (truth b) = Some b
truth_in _ = None

-- the tree at this index is an option that is not there; false where there are too few trees
abbrev pub is_absent_at : ℕ → SpelledForest → Bool
is_absent_at n ts = is_some (option_and_then (λ l. if is_absent l then Some l else None) (label_at n ts))

-- a type with no path and no arguments, by its children
abbrev pub short_type_value : SpelledForest → Option Data
short_type_value ts = if is_absent_at 0 ts && is_absent_at 2 ts then option_map string (option_and_then ident_in (label_at 1 ts)) else None

-- the first of these trees has this kind as its label, without a span; false where there is no tree
abbrev pub has_label : Kind → SpelledForest → Bool
has_label k ts = is_some (option_and_then (λ l. if same_label (kind k) l then Some l else None) (label_at 0 ts))

-- an expression, by the children of its node
abbrev pub short_expression_value : SpelledForest → Option Data
short_expression_value ts =
    if has_label literal ts then option_map boolean (option_and_then truth_in (label_at 0 (children_of_first ts)))
    else (if has_label type_or_identifier ts then short_type_value (children_of_first (children_of_first ts)) else None)

-- ---- spans

-- a span as a list of its start and its end
abbrev pub span_value : ℕ → ℕ → Data
span_value s e = array (item (number (unsigned s)) (item (number (unsigned e)) no_items))

-- the span [0,0], which is no place
abbrev pub is_nowhere : ℕ → ℕ → Bool
is_nowhere s e = (s == 0) && (e == 0)

-- the members, with the span of a label at `span` where spans are written and it is not [0,0]
abbrev pub put_span : Bool → SpelledLabel → Members → Members
put_span true (at k s e) ms = if is_nowhere s e then ms else put (codes "span") (span_value s e) ms
put_span _ l ms = ms

-- the members, with 2 at `form` in form 2; a span is written by its head
abbrev pub put_extra : Bool → Extra → Members → Members
put_extra b a_span ms = ms
put_extra b second_form ms = if b then put (codes "form") (number (unsigned 2)) ms else ms

-- the span is to be written, so no short form is taken
abbrev pub is_placed : Bool → SpelledLabel → Bool
is_placed true (at k s e) = not (is_nowhere s e)
is_placed _ l = false

module _ (spans : Bool) where
  -- the short form that is given; none where the label has a span that is to be written
  abbrev pub unless_placed : SpelledLabel → Option Data → Option Data
  unless_placed l o = option_and_then (λ d. if is_placed spans l then None else Some d) o

  -- an expression that a node has as its one child
  abbrev pub short_inside : SpelledForest → Option Data
  short_inside ts = elim (label_at 0 ts) as (λ _. Option Data) [ None ↦ None | Some m ↦ unless_placed m (short_expression_value (children_of_first ts)) ]

  -- the short form of a tree in the place of a name; none where there is none, or where it would lose a span
  abbrev pub short_value : Name → SpelledLabel → SpelledForest → Option Data
  short_value a_type l ts = short_type_value ts
  short_value an_expression l ts = unless_placed l (short_expression_value ts)
  short_value a_template_argument l ts = short_inside ts
  short_value a_case l ts = short_inside ts
  short_value an_attribute l ts = unless_placed l (option_map string (option_and_then (word_of attribute_words) (label_at 0 ts)))
  short_value _ l ts = None

-- ---- trees

-- what trees after one another are written as, by the form that is asked of them
pub record Writes : Type 0 where
  -- the value of the first
  pub value : Form → Data
  -- the members of a node made of the same object
  pub members : Head → Row → Members → Members
  -- the values of all
  pub items : Name → Items
  -- the members that all are, with others
  pub row : Row → Members → Members

-- a list without items
abbrev pub is_empty_array : Data → Bool
is_empty_array (array no_items) = true
is_empty_array _ = false

-- the members, with a list at the key unless it is empty
abbrev pub put_list : Text → Data → Members → Members
put_list k d ms = if is_empty_array d then ms else put k d ms

-- the members, with what a label adds to its object: its word at a key, `null` if it has none, or its span
abbrev pub put_head : Head → SpelledLabel → Members → Members
put_head (fixed m) l ms = ms
put_head (chosen k words) l ms = put k (text_or_null (word_of words l)) ms
put_head (placed spans k) l ms = put_span spans l ms

-- the members, with those that give no child and that the row begins with: a word, and 2 at `form` in form 2
abbrev pub marks : Row → Members → Members
marks (marked k w row) ms = put k (string w) (marks row ms)
marks (beside b x row) ms = put_extra b x (marks row ms)
marks _ ms = ms

-- the row without the members that give no child and that it begins with
abbrev pub unmarked : Row → Row
unmarked (marked k w row) = unmarked row
unmarked (beside b x row) = unmarked row
unmarked nothing = nothing
unmarked (needs k f row) = needs k f row
unmarked (may k f row) = may k f row
unmarked (many k f row) = many k f row
unmarked (given l row) = given l row
unmarked (inner h ins row) = inner h ins row
unmarked (inner_where k h ins row) = inner_where k h ins row

-- the object of a node with this label, whose children are written so; `null` where there is no node
abbrev pub object_value : Option Node → SpelledLabel → Writes → Data
object_value None l inside = null
object_value (Some n) l inside = object (put_head n.head l (marks n.row (inside.row (unmarked n.row) no_members)))

module _ (spans : Bool) where
  -- what a tree with this label and these children is written as: a leaf, a list, a short form, or else an object
  abbrev pub value_at : SpelledLabel → SpelledForest → Writes → Form → Data
  value_at l children inside (leaf f) = leaf_value f l
  value_at l children inside (list_of k m) = array (inside.items m)
  value_at l children inside (node m) = elim (short_value spans m l children) as (λ _. Data) [ Some d ↦ d | None ↦ object_value (first_fit (candidates spans m) l children) l inside ]

  -- The members that this tree and those after it are by a row, with others; an absent option and an empty list are none. A
  -- row that begins with a member that gives no child adds nothing: `unmarked` takes such members away before.
  abbrev pub row_at : SpelledLabel → SpelledForest → Writes → Writes → Row → Members → Members
  row_at l children inside later nothing ms = ms
  row_at l children inside later (marked k w row) ms = ms
  row_at l children inside later (beside b x row) ms = ms
  row_at l children inside later (needs k f row) ms = put k (value_at l children inside f) (later.row row ms)
  row_at l children inside later (may k f row) ms = if is_absent l then later.row row ms else put k (inside.value f) (later.row row ms)
  row_at l children inside later (many k f row) ms = put_list k (value_at l children inside f) (later.row row ms)
  row_at l children inside later (given m row) ms = later.row row ms
  row_at l children inside later (inner h ins row) ms = put_head h l (inside.row ins (later.row row ms))
  row_at l children inside later (inner_where k h ins row) ms = if is_absent l then later.row row ms else inside.members h ins (later.row row ms)

  -- what trees after one another are written as; no trees are `null` as a value, and have no members and no items
  abbrev pub written_forest : SpelledForest → Writes
  written_forest end = record { value = λ f. null; members = λ h row ms. ms; items = λ m. no_items; row = λ row ms. ms }
  written_forest (tree l children others) = record {
    value = value_at l children (written_forest children);
    members = λ h ins ms. put_head h l ((written_forest children).row ins ms);
    items = λ m. item (value_at l children (written_forest children) (node m)) ((written_forest others).items m);
    row = row_at l children (written_forest children) (written_forest others);
  }

  -- the value that a tree is written as by a form, in form 2 where spans are written
  abbrev pub written : Form → Spelled → Data
  written f t = (written_forest (before t end)).value f
