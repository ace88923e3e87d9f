-- The tree that a value is read as, by a table of nodes.
use Rattle.std.specs.Prelude.{ℕ, zero, suc, List, [], ◌∷◌, ◌++◌, Bool, true, false, not, ◌&&◌, if◌then◌else◌, nat_le, is_some, Option, Some, None, option_map, option_and_then, codes, ◌==◌}
use Rattle.std.specs.Str.{bytes_eq}
use Rattle.serde_json.specs.Data.{Data, Items, no_items, item}
use Rattle.serde_json.specs.Find.{get, as_str, as_number, as_array, as_object, as_u64}
use Rattle.serde_json.specs.Written.{has_float}
use Rattle.wesl_tree_syntax.specs.Tree.{before, kind, ident, text, texts, path, end, tree, absent, present, list, at}
use Rattle.wesl_tree_names.specs.Path.{Text, Path}
use Rattle.wesl_tree_names.specs.PathText.{parse}
use Rattle.wesl_json_form.specs.Keys.{has_only}
use Rattle.wesl_json_form.specs.Schema.{Spelled, SpelledForest, SpelledLabel, leaf_of, look, nonempty, Words, Leaf, an_ident, a_name, a_text, a_literal, some_names, a_path, one_of, anything, Name, Form, leaf, list_of, node, Head, fixed, chosen, Row, nothing, marked, needs, may, many, given, inner, inner_where, Node, Table, Extra, a_span, second_form, extra, placed, beside}

infixl 10 ◌>>=◌
-- one step after another, as `do` writes them: none where the first or the second gives none
abbrev pub ◌>>=◌ : {A B : Type 0} → Option A → (A → Option B) → Option B
o >>= f = option_and_then f o

-- ---- leaves

-- the text itself where it passes the test, else none
abbrev pub if_text : (Text → Bool) → Text → Option Text
if_text test s = if test s then Some s else None

-- nonempty, and neither `true` nor `false`, which are truth values
abbrev pub is_literal : Text → Bool
is_literal s = is_some (nonempty s) && not (bytes_eq s (codes "true")) && not (bytes_eq s (codes "false"))

-- the name that a value is: a nonempty text
abbrev pub name_in : Data → Option Text
name_in d = option_and_then nonempty (as_str d)

-- the literal that a value is: a nonempty text that is neither `true` nor `false`
abbrev pub literal_in : Data → Option Text
literal_in d = option_and_then (if_text is_literal) (as_str d)

-- the label that a value stands for as a word; none where it is no text, or none of these words
abbrev pub word_in : Words → Data → Option SpelledLabel
word_in words d = option_and_then (look words) (as_str d)

-- the module path that a value is; none where it is no text, or its text says no path
abbrev pub path_in : Data → Option Path
path_in d = option_and_then parse (as_str d)

-- each item of a list, read as a text; none where one of them is not read
abbrev pub texts_in : (Data → Option Text) → Items → Option (List Text)
texts_in read no_items = Some []
texts_in read (item d ds) = do
  s ← read d
  ss ← texts_in read ds
  Some (s ∷ ss)

-- the texts of a list; none where the value is no list, or one of its items is not read
abbrev pub list_in : (Data → Option Text) → Data → Option (List Text)
list_in read d = option_and_then (texts_in read) (as_array d)

-- the whole number from 0 on that a value is; none where it is a number below 0, a float, or no number
abbrev pub whole_number : Data → Option ℕ
whole_number d = option_and_then as_u64 (as_number d)

-- a start and an end as a span; none where the end comes before the start, or is above 4294967295
abbrev pub ordered : ℕ → ℕ → Option (ℕ × ℕ)
ordered s e = if nat_le s e && nat_le e 4294967295 then Some (s, e) else None

-- a start and an end, both whole numbers; none where there are fewer items or more
abbrev pub span_of_items : Items → Option (ℕ × ℕ)
span_of_items (item a (item b no_items)) = do
  s ← whole_number a
  e ← whole_number b
  ordered s e
span_of_items _ = None

-- the span that a value is: a list of its start and its end
abbrev pub span_of : Data → Option (ℕ × ℕ)
span_of d = option_and_then span_of_items (as_array d)

-- the span of an object: [0,0] where it has none, and where none is read
abbrev pub span_in : Bool → Data → Option (ℕ × ℕ)
span_in false d = Some (0, 0)
span_in true d = elim (get (codes "span") d) as (λ _. Option (ℕ × ℕ)) [ None ↦ Some (0, 0) | Some v ↦ span_of v ]

-- the value may stand as this member: at `span` a span, at `form` the number 2
abbrev pub is_extra : Extra → Data → Bool
is_extra a_span v = is_some (span_of v)
is_extra second_form v = elim (whole_number v) as (λ _. Bool) [ None ↦ false | Some n ↦ n == 2 ]

-- the member is as it must be: `span` is absent or a span, `form` is there and is 2
abbrev pub has_extra : Extra → Option Data → Bool
has_extra a_span None = true
has_extra second_form None = false
has_extra x (Some v) = is_extra x v

-- the key of a member that gives no child
abbrev pub extra_key : Extra → Text
extra_key a_span = codes "span"
extra_key second_form = codes "form"

-- the key of a member that gives no child, where it may stand; else no key
abbrev pub extra_keys : Bool → Extra → List Text
extra_keys b x = if b then extra_key x ∷ [] else []

-- a leaf that is looked at, and gives nothing of its own
abbrev pub any_leaf : Bool → Option SpelledLabel
any_leaf b = if b then Some (kind list) else None

-- the label that a value gives as such a leaf; none where it is no such leaf
abbrev pub leaf_label : Leaf → Data → Option SpelledLabel
leaf_label (an_ident role) d = option_map (ident role) (name_in d)
leaf_label a_name d = option_map text (name_in d)
leaf_label a_text d = option_map text (as_str d)
leaf_label a_literal d = option_map text (literal_in d)
leaf_label some_names d = option_map texts (list_in name_in d)
leaf_label a_path d = option_map path (path_in d)
leaf_label (one_of words) d = word_in words d
leaf_label anything d = any_leaf (not (has_float d))
leaf_label (extra x) d = any_leaf (is_extra x d)

-- ---- objects

-- The label of a node by its object: one that is fixed, one that a word at a key picks, or a kind with the span. None where
-- the word is absent or unknown, or what stands at `span` is no span.
abbrev pub label_in : Head → Data → Option SpelledLabel
label_in (fixed l) d = Some l
label_in (chosen k words) d = option_and_then (word_in words) (get k d)
label_in (placed spans k) d = option_map (λ p. at k p.0 p.1) (span_in spans d)

-- what an absent list is
abbrev pub empty_of : Form → SpelledLabel
empty_of (leaf l) = texts []
empty_of (list_of k m) = kind k
empty_of (node m) = kind list

-- the keys that an object has for its label: that of the word, if a word picks it; `span` is told of by the row
abbrev pub head_keys : Head → List Text
head_keys (fixed l) = []
head_keys (chosen k words) = k ∷ []
head_keys (placed spans k) = []

-- The keys that an object may have by its row. Those of an option that is there where the object has a key, such as `access`
-- with `space`, only where it has this key.
abbrev pub known_keys : Row → Data → List Text
known_keys nothing d = []
known_keys (marked k w row) d = k ∷ known_keys row d
known_keys (needs k f row) d = k ∷ known_keys row d
known_keys (may k f row) d = k ∷ known_keys row d
known_keys (many k f row) d = k ∷ known_keys row d
known_keys (given l row) d = known_keys row d
known_keys (inner h ins row) d = head_keys h ++ known_keys ins d ++ known_keys row d
known_keys (inner_where k h ins row) d = (if is_some (get k d) then head_keys h ++ known_keys ins d else []) ++ known_keys row d
known_keys (beside b x row) d = extra_keys b x ++ known_keys row d

-- what reads a value inside another: its tree, if it is of the form that is asked of it
abbrev pub Reader : Type 0
Reader = Form → Data → Option Spelled

-- an option that is there, with this tree in it
abbrev pub present_tree : Spelled → Spelled
present_tree t = record { label = kind present; children = before t end }

-- a member that must be there: none where it is absent
abbrev pub needed : (Data → Option Spelled) → Option Data → Option Spelled
needed read None = None
needed read (Some d) = read d

-- a member that may be there: an absent option where it is absent
abbrev pub optional : (Data → Option Spelled) → Option Data → Option Spelled
optional read None = Some (leaf_of (kind absent))
optional read (Some d) = option_map present_tree (read d)

-- a list: the label of an empty one, without children, where the member is absent
abbrev pub or_empty : SpelledLabel → (Data → Option Spelled) → Option Data → Option Spelled
or_empty l read None = Some (leaf_of l)
or_empty l read (Some d) = read d

-- an option of a node made of further members
abbrev pub where_there : Bool → Option SpelledLabel → Option SpelledForest → Option Spelled
where_there false l ins = Some (leaf_of (kind absent))
where_there true l ins = do
  label ← l
  is ← ins
  Some (present_tree (record { label = label; children = is }))

-- the children that the members of an object give
abbrev pub children_in : Reader → Row → Data → Option SpelledForest
children_in read nothing d = Some end
children_in read (marked k w row) d = do
  l ← label_in (chosen k ((w, kind present) ∷ [])) d
  children_in read row d
children_in read (needs k f row) d = do
  t ← needed (read f) (get k d)
  ts ← children_in read row d
  Some (before t ts)
children_in read (may k f row) d = do
  t ← optional (read f) (get k d)
  ts ← children_in read row d
  Some (before t ts)
children_in read (many k f row) d = do
  t ← or_empty (empty_of f) (read f) (get k d)
  ts ← children_in read row d
  Some (before t ts)
children_in read (given l row) d = do
  ts ← children_in read row d
  Some (tree l end ts)
children_in read (inner h ins row) d = do
  l ← label_in h d
  is ← children_in read ins d
  ts ← children_in read row d
  Some (tree l is ts)
children_in read (inner_where k h ins row) d = do
  t ← where_there (is_some (get k d)) (label_in h d) (children_in read ins d)
  ts ← children_in read row d
  Some (before t ts)
children_in read (beside b x row) d = if (if b then has_extra x (get (extra_key x) d) else true) then children_in read row d else None

-- the tree of an object as this node; none where it has an unknown key, or its label or one of its children is not read
abbrev pub node_in : Reader → Data → Node → Option Spelled
node_in read d n = if has_only (known_keys n.row d) d then (do
  l ← label_in n.head d
  ts ← children_in read n.row d
  Some (record { label = l; children = ts })) else None

-- each item of a list
abbrev pub items_in : (Data → Option Spelled) → Items → Option SpelledForest
items_in read no_items = Some end
items_in read (item d ds) = do
  t ← read d
  ts ← items_in read ds
  Some (before t ts)

module _ (table : Table) where
  -- the tree of an object in the place of a name; none where it is no node there
  abbrev pub object_in : Reader → Name → Data → Option Spelled
  object_in read m d = option_and_then (node_in read d) (table.nodes m d)

  -- The tree of a value by its form, with what reads the values inside. In the place of a name an object is a node, and any
  -- other value a short form.
  abbrev pub form_in : Reader → Form → Data → Option Spelled
  form_in read (leaf l) d = option_map leaf_of (leaf_label l d)
  form_in read (list_of k m) d = option_map (λ ts. record { label = kind k; children = ts }) (option_and_then (items_in (read (node m))) (as_array d))
  form_in read (node m) d = if is_some (as_object d) then object_in read m d else table.shorts m d

  -- The tree that a value is read as by a form; none where it is not of this form. This is so for each n above its depth: with
  -- fewer levels it may be none.
  abbrev pub reading : ℕ → Reader
  reading zero f d = None
  reading (suc n) f d = form_in (reading n) f d
