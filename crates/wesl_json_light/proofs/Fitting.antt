-- Trees that a form can hold.
use Rattle.std.proofs.Common.{◌≡◌, ℕ, List, ◌∷◌, Bool, true, ◌&&◌, if◌then◌else◌, Option, Some, None, option_map, codes}
use Rattle.std.specs.Option.{is_some}
use Rattle.serde_json.specs.Data.{Data, object, string, Members, no_members, put}
use Rattle.serde_json.specs.Find.{as_object, get_member}
use Rattle.wesl_tree_names.specs.Path.{Text, Path}
use Rattle.wesl_tree_syntax.specs.Tree.{Kind, Role, kind, at, ident, text, texts, path, literal, absent, present, end, tree, before}
use Rattle.wesl_json_form.specs.Schema.{Spelled, SpelledForest, SpelledLabel, Words, leaf_of, look, nonempty, Leaf, an_ident, a_name, a_text, a_literal, some_names, a_path, one_of, Name, Form, leaf, list_of, node, Head, fixed, chosen, placed, Row, nothing, marked, needs, may, many, given, inner, inner_where, beside, a_span, second_form, Node}
use Rattle.wesl_json_form.specs.Nodes.{nodes_of, shorts_of}
use Rattle.wesl_json_form.specs.Writing.{word_of, short_value, first_fit, candidates, unmarked, marks, written_forest}
use Rattle.wesl_json_light.specs.Readable.{is_text_of, is_readable, are_readable}
use Rattle.wesl_json_light.proofs.Guards.{guard}
use Rattle.wesl_json_light.proofs.Rows.{keys, members_of, span_key}
use Rattle.wesl_json_light.proofs.Keys.{distinct}

-- a word that says the label, and is said of it
pub record IsWord (words : Words) (l : SpelledLabel) : Type 0 where
  pub word : Text
  pub written : word_of words l ≡ Some word
  pub read : look words word ≡ Some l

pub data IsLeaf : SpelledLabel → Leaf → SpelledLabel → Type 0 where
  an_identifier : {p : SpelledLabel} {r : Role} {s : Text} → IsLeaf p (an_ident r) (ident r s)
  literal_text : {s : Text} → IsLeaf (kind literal) a_literal (text s)
  free_text : {p : SpelledLabel} {s : Text} → is_text_of p s ≡ true → IsLeaf p a_text (text s)
  name_text : {p : SpelledLabel} {s : Text} → is_text_of p s ≡ is_some (nonempty s) → IsLeaf p a_name (text s)
  names_text : {p : SpelledLabel} {ss : List Text} → IsLeaf p some_names (texts ss)
  path_text : {p : SpelledLabel} {q : Path} → IsLeaf p a_path (path q)
  a_word : {p l : SpelledLabel} {words : Words} → IsWord words l → is_readable p l ≡ true → IsLeaf p (one_of words) l

-- a label at a place of the source, where places are shown
abbrev pub label_shown : Bool → Kind → ℕ × ℕ → SpelledLabel
label_shown spans k o = at k (if spans then o.0 else 0) (if spans then o.1 else 0)

-- a head in a row, which has no span
abbrev pub HasHead : Head → SpelledLabel → Type 0
HasHead (fixed m) l = m ≡ l
HasHead (chosen k words) l = IsWord words l
HasHead (placed spans k) l = ⊥

abbrev pub node_with : SpelledLabel → Row → Node
node_with l row = record { head = fixed l; row = row }

abbrev pub tree_of : SpelledLabel → SpelledForest → Spelled
tree_of l ts = record { label = l; children = ts }

-- a row without the word of its node
pub record IsPlainRow (row : Row) : Type 0 where
  pub same_row : unmarked row ≡ row
  pub no_mark : (ms : Members) → marks row ms ≡ ms

abbrev pub word_key : Text
word_key = codes "k"

-- the word of a node, where it has one
abbrev pub with_word : Option Text → Row → Row
with_word None row = row
with_word (Some w) row = marked word_key w row

abbrev pub put_word : Option Text → Members → Members
put_word None ms = ms
put_word (Some w) ms = put word_key (string w) ms

-- a node with a span
abbrev pub placed_node : Bool → Kind → Option Text → Row → Node
placed_node spans k o row = record { head = placed spans k; row = beside spans a_span (with_word o row) }

-- a node that holds a node with a span in the same object
abbrev pub holding_node : Bool → Kind → Kind → Option Text → Row → Node
holding_node spans outer k o row = record { head = fixed (kind outer); row = beside spans a_span (with_word o (inner (placed spans k) row nothing)) }

-- no other key is one of these
abbrev pub placed_keys : Row → List Text
placed_keys row = span_key ∷ word_key ∷ keys row

-- the node that is picked for a tree
pub record IsPicked (spans : Bool) (m : Name) (n : Node) (ks : List Text) (l : SpelledLabel) (ts : SpelledForest) : Type 0 where
  pub long : short_value spans m l ts ≡ None
  pub fits : first_fit (candidates spans m) l ts ≡ Some n
  pub apart : distinct ks ≡ true

-- the node that is read of an object with this word
abbrev pub IsReadBy : Bool → Name → Option Text → Node → Type 0
IsReadBy spans m o n = (ms : Members) → get_member word_key ms ≡ option_map string o → nodes_of spans m (object ms) ≡ Some n

mutual
  pub data Fits (spans : Bool) : SpelledLabel → Form → Spelled → Type 0 where
    a_leaf : {p l : SpelledLabel} {f : Leaf} → IsLeaf p f l → Fits spans p (leaf f) (leaf_of l)
    a_list : {p : SpelledLabel} {k : Kind} {m : Name} {ts : SpelledForest} → AreFits spans (kind k) m ts → Fits spans p (list_of k m) (tree_of (kind k) ts)
    plain_node : {p l : SpelledLabel} {m : Name} {ts : SpelledForest} (row : Row) → IsPicked spans m (node_with l row) (keys row) l ts → IsPlainRow row → nodes_of spans m (object (members_of spans row ts no_members)) ≡ Some (node_with l row)
        → is_readable p l ≡ true → FitsRow spans l row ts → Fits spans p (node m) (tree_of l ts)
    recast_node : {p l : SpelledLabel} {m : Name} {ts : SpelledForest} (row written_row : Row) → short_value spans m l ts ≡ None → first_fit (candidates spans m) l ts ≡ Some (node_with l written_row)
        → marks written_row ((written_forest spans ts).row (unmarked written_row) no_members) ≡ members_of spans row ts no_members → distinct (keys row) ≡ true → nodes_of spans m (object (members_of spans row ts no_members)) ≡ Some (node_with l row)
        → is_readable p l ≡ true → FitsRow spans l row ts → Fits spans p (node m) (tree_of l ts)
    worded_node : {p l : SpelledLabel} {m : Name} {ts : SpelledForest} (w : Text) (row : Row) → IsPicked spans m (node_with l (marked word_key w row)) (word_key ∷ keys row) l ts → IsPlainRow row → IsReadBy spans m (Some w) (node_with l (marked word_key w row))
        → is_readable p l ≡ true → FitsRow spans l row ts → Fits spans p (node m) (tree_of l ts)
    node_at : {p : SpelledLabel} {m : Name} {ts : SpelledForest} (k : Kind) (o : ℕ × ℕ) (w : Option Text) (row : Row) → IsPicked spans m (placed_node spans k w row) (placed_keys row) (label_shown spans k o) ts → IsPlainRow row → IsReadBy spans m w (placed_node spans k w row)
        → FitsRow spans (label_shown spans k o) row ts → Fits spans p (node m) (tree_of (label_shown spans k o) ts)
    node_around : {p : SpelledLabel} {m : Name} {ts : SpelledForest} (outer k : Kind) (o : ℕ × ℕ) (w : Option Text) (row : Row) → IsPicked spans m (holding_node spans outer k w row) (placed_keys row) (kind outer) (tree (label_shown spans k o) ts end)
        → IsReadBy spans m w (holding_node spans outer k w row) → FitsRow spans (label_shown spans k o) row ts → Fits spans p (node m) (tree_of (kind outer) (tree (label_shown spans k o) ts end))
    unit_node : {p : SpelledLabel} {m : Name} {ts : SpelledForest} (k : Kind) (row : Row) → IsPicked spans m (record { head = fixed (kind k); row = beside spans second_form row }) (codes "form" ∷ keys row) (kind k) ts → IsPlainRow row
        → ((ms : Members) → nodes_of spans m (object ms) ≡ Some (record { head = fixed (kind k); row = beside spans second_form row })) → FitsRow spans (kind k) row ts → Fits spans p (node m) (tree_of (kind k) ts)
    short_node : {p l : SpelledLabel} {m : Name} {ts : SpelledForest} (d : Data) → short_value spans m l ts ≡ Some d → as_object d ≡ None → shorts_of m d ≡ guard (is_readable p l && (are_readable l ts && true)) (tree_of l ts) → Fits spans p (node m) (tree_of l ts)

  pub data AreFits (spans : Bool) : SpelledLabel → Name → SpelledForest → Type 0 where
    no_more : {p : SpelledLabel} {m : Name} → AreFits spans p m end
    one_more : {p : SpelledLabel} {m : Name} {t : Spelled} {ts : SpelledForest} → Fits spans p (node m) t → AreFits spans p m ts → AreFits spans p m (before t ts)

  pub data FitsRow (spans : Bool) : SpelledLabel → Row → SpelledForest → Type 0 where
    all_there : {p : SpelledLabel} → FitsRow spans p nothing end
    needed : {p : SpelledLabel} {k : Text} {f : Form} {row : Row} {t : Spelled} {ts : SpelledForest} → Fits spans p f t → FitsRow spans p row ts → FitsRow spans p (needs k f row) (before t ts)
    left_out : {p : SpelledLabel} {k : Text} {f : Form} {row : Row} {ts : SpelledForest} → FitsRow spans p row ts → FitsRow spans p (may k f row) (tree (kind absent) end ts)
    put_in : {p : SpelledLabel} {k : Text} {f : Form} {row : Row} {t : Spelled} {ts : SpelledForest} → Fits spans (kind present) f t → FitsRow spans p row ts → FitsRow spans p (may k f row) (tree (kind present) (before t end) ts)
    listed : {p : SpelledLabel} {k : Text} {c : Kind} {m : Name} {row : Row} {is ts : SpelledForest} → AreFits spans (kind c) m is → FitsRow spans p row ts → FitsRow spans p (many k (list_of c m) row) (tree (kind c) is ts)
    named : {p : SpelledLabel} {k : Text} {row : Row} {ss : List Text} {ts : SpelledForest} → FitsRow spans p row ts → FitsRow spans p (many k (leaf some_names) row) (tree (texts ss) end ts)
    told : {p l : SpelledLabel} {row : Row} {ts : SpelledForest} → is_readable p l ≡ true → FitsRow spans p row ts → FitsRow spans p (given l row) (tree l end ts)
    within : {p l : SpelledLabel} {h : Head} {ins row : Row} {is ts : SpelledForest} → HasHead h l → is_readable p l ≡ true → FitsRow spans l ins is → FitsRow spans p row ts → FitsRow spans p (inner h ins row) (tree l is ts)
    nowhere : {p : SpelledLabel} {k : Text} {words : Words} {ins row : Row} {ts : SpelledForest} → FitsRow spans p row ts → FitsRow spans p (inner_where k (chosen k words) ins row) (tree (kind absent) end ts)
    somewhere : {p l : SpelledLabel} {k : Text} {words : Words} {ins row : Row} {is ts : SpelledForest} → IsWord words l → is_readable (kind present) l ≡ true → FitsRow spans l ins is → FitsRow spans p row ts → FitsRow spans p (inner_where k (chosen k words) ins row) (tree (kind present) (tree l is end) ts)
