-- What holds of texts, truths, whole numbers and `null`, and of lists and objects of what it holds of, holds of all that is written.
use Rattle.std.proofs.Common.{ℕ, List, [], ◌∷◌, Bool, true, false, ◌&&◌, if◌then◌else◌, Option, Some, None, option_map, option_and_then, codes}
use Rattle.serde_json.specs.Data.{Data, null, string, boolean, number, unsigned, array, object, Items, no_items, item, Members, no_members, put}
use Rattle.wesl_tree_names.specs.Path.{Text}
use Rattle.wesl_tree_names.specs.PathText.{to_text}
use Rattle.wesl_tree_syntax.specs.Tree.{kind, at, ident, text, texts, truth, unary, binary, assignment, space, access, path, end, tree, before, literal, type_or_identifier}
use Rattle.wesl_tree_syntax.specs.Unit.{UnitView}
use Rattle.wesl_json_form.specs.Schema.{Spelled, SpelledForest, SpelledLabel, Leaf, an_ident, a_name, a_text, a_literal, some_names, a_path, one_of, anything, extra, Extra, a_span, second_form, Name, Form, leaf, list_of, node, Head, fixed, chosen, placed, Row, nothing, marked, needs, may, many, given, inner, inner_where, beside, Node, a_unit, an_import, a_content, an_entry, a_directive, a_declaration, a_member, a_parameter, a_body, a_statement, an_elif, an_else, a_clause, a_case, a_continuing, a_break_if, a_call, a_type, a_template_argument, an_expression, an_attribute}
use Rattle.wesl_json_form.specs.Units.{unit_tree, shown_unit, written_as}
use Rattle.wesl_json_form.specs.Writing.{texts_value, label_value, leaf_value, text_or_null, word_of, Writes, written, written_forest, value_at, short_value, short_type_value, short_expression_value, object_value, first_fit, candidates, marks, unmarked, put_head, put_span, put_extra, span_value, is_nowhere, is_placed, short_inside, is_absent, is_empty_array, is_absent_at, ident_in, truth_in, label_at, has_label, children_of_first}
use Rattle.wesl_json_form.specs.Words.{attribute_words}

pub record IsKept (P : Data → Type 0) (PI : Items → Type 0) (PM : Members → Type 0) : Type 0 where
  pub of_null : P null
  pub of_truth : (b : Bool) → P (boolean b)
  pub of_text : (s : Text) → P (string s)
  pub of_whole : (n : ℕ) → P (number (unsigned n))
  pub of_list : (ds : Items) → PI ds → P (array ds)
  pub of_object : (ms : Members) → PM ms → P (object ms)
  pub of_no_items : PI no_items
  pub of_item : (d : Data) (ds : Items) → P d → PI ds → PI (item d ds)
  pub of_no_members : PM no_members
  pub of_put : (k : Text) (d : Data) (ms : Members) → P d → PM ms → PM (put k d ms)

module _ (P : Data → Type 0) (PI : Items → Type 0) (PM : Members → Type 0) (kept : IsKept P PI PM) where
  texts_kept : (ss : List Text) → PI (texts_value ss)
  texts_kept [] = kept.of_no_items
  texts_kept (s ∷ ss) = kept.of_item (string s) (texts_value ss) (kept.of_text s) (texts_kept ss)

  label_kept : (l : SpelledLabel) → P (label_value l)
  label_kept (kind k) = kept.of_null
  label_kept (at k s e) = kept.of_null
  label_kept (ident r s) = kept.of_text s
  label_kept (text s) = kept.of_text s
  label_kept (texts ss) = kept.of_list (texts_value ss) (texts_kept ss)
  label_kept (truth b) = kept.of_truth b
  label_kept (unary o) = kept.of_null
  label_kept (binary o) = kept.of_null
  label_kept (assignment o) = kept.of_null
  label_kept (space s) = kept.of_null
  label_kept (access a) = kept.of_null
  label_kept (path p) = kept.of_text (to_text p)

  word_kept : (o : Option Text) → P (text_or_null o)
  word_kept None = kept.of_null
  word_kept (Some s) = kept.of_text s

  leaf_kept : (f : Leaf) (l : SpelledLabel) → P (leaf_value f l)
  leaf_kept (one_of words) l = word_kept (word_of words l)
  leaf_kept (an_ident r) l = label_kept l
  leaf_kept a_name l = label_kept l
  leaf_kept a_text l = label_kept l
  leaf_kept a_literal l = label_kept l
  leaf_kept some_names l = label_kept l
  leaf_kept a_path l = label_kept l
  leaf_kept (extra x) l = label_kept l
  leaf_kept anything l = label_kept l

  -- ---- short forms

  abbrev HoldsOfOption : Option Data → Type 0
  HoldsOfOption None = Unit {0}
  HoldsOfOption (Some d) = P d

  strings_kept : (o : Option Text) → HoldsOfOption (option_map string o)
  strings_kept None = tt
  strings_kept (Some s) = kept.of_text s

  booleans_kept : (o : Option Bool) → HoldsOfOption (option_map boolean o)
  booleans_kept None = tt
  booleans_kept (Some b) = kept.of_truth b

  either_kept : (b : Bool) (x y : Option Data) → HoldsOfOption x → HoldsOfOption y → HoldsOfOption (if b then x else y)
  either_kept true x y h k = h
  either_kept false x y h k = k

  type_kept : (ts : SpelledForest) → HoldsOfOption (short_type_value ts)
  type_kept ts = either_kept (is_absent_at 0 ts && is_absent_at 2 ts) (option_map string (option_and_then ident_in (label_at 1 ts))) None (strings_kept (option_and_then ident_in (label_at 1 ts))) tt

  expression_kept : (ts : SpelledForest) → HoldsOfOption (short_expression_value ts)
  expression_kept ts =
      let truths = option_and_then truth_in (label_at 0 (children_of_first ts)) in
      let types = short_type_value (children_of_first (children_of_first ts)) in
      either_kept (has_label literal ts) (option_map boolean truths) (if has_label type_or_identifier ts then types else None) (booleans_kept truths) (either_kept (has_label type_or_identifier ts) types None (type_kept (children_of_first (children_of_first ts))) tt)

  unless_kept : (b : Bool) (o : Option Data) → HoldsOfOption o → HoldsOfOption (option_and_then (λ d. if b then None else Some d) o)
  unless_kept true None h = tt
  unless_kept true (Some d) h = tt
  unless_kept false None h = tt
  unless_kept false (Some d) h = h

  inside_kept : (spans : Bool) (ts : SpelledForest) → HoldsOfOption (short_inside spans ts)
  inside_kept spans end = tt
  inside_kept spans (tree l c o) = unless_kept (is_placed spans l) (short_expression_value c) (expression_kept c)

  short_kept : (spans : Bool) (m : Name) (l : SpelledLabel) (ts : SpelledForest) → HoldsOfOption (short_value spans m l ts)
  short_kept spans a_unit l ts = tt
  short_kept spans an_import l ts = tt
  short_kept spans a_content l ts = tt
  short_kept spans an_entry l ts = tt
  short_kept spans a_directive l ts = tt
  short_kept spans a_declaration l ts = tt
  short_kept spans a_member l ts = tt
  short_kept spans a_parameter l ts = tt
  short_kept spans a_body l ts = tt
  short_kept spans a_statement l ts = tt
  short_kept spans an_elif l ts = tt
  short_kept spans an_else l ts = tt
  short_kept spans a_clause l ts = tt
  short_kept spans a_case l ts = inside_kept spans ts
  short_kept spans a_continuing l ts = tt
  short_kept spans a_break_if l ts = tt
  short_kept spans a_call l ts = tt
  short_kept spans a_type l ts = type_kept ts
  short_kept spans a_template_argument l ts = inside_kept spans ts
  short_kept spans an_expression l ts = unless_kept (is_placed spans l) (short_expression_value ts) (expression_kept ts)
  short_kept spans an_attribute l ts = let o = option_map string (option_and_then (word_of attribute_words) (label_at 0 ts)) in unless_kept (is_placed spans l) o (strings_kept (option_and_then (word_of attribute_words) (label_at 0 ts)))

  -- ---- trees

  unless : (b : Bool) (ms ns : Members) → PM ms → PM ns → PM (if b then ms else ns)
  unless true ms ns h k = h
  unless false ms ns h k = k

  span_value_kept : (s e : ℕ) → P (span_value s e)
  span_value_kept s e =
      let last = kept.of_item (number (unsigned e)) no_items (kept.of_whole e) kept.of_no_items in
      kept.of_list (item (number (unsigned s)) (item (number (unsigned e)) no_items)) (kept.of_item (number (unsigned s)) (item (number (unsigned e)) no_items) (kept.of_whole s) last)

  span_kept : (spans : Bool) (l : SpelledLabel) (ms : Members) → PM ms → PM (put_span spans l ms)
  span_kept false l ms w = w
  span_kept true (at k s e) ms w = unless (is_nowhere s e) ms (put (codes "span") (span_value s e) ms) w (kept.of_put (codes "span") (span_value s e) ms (span_value_kept s e) w)
  span_kept true (kind k) ms w = w
  span_kept true (ident r i) ms w = w
  span_kept true (text x) ms w = w
  span_kept true (texts xs) ms w = w
  span_kept true (truth b) ms w = w
  span_kept true (unary o) ms w = w
  span_kept true (binary o) ms w = w
  span_kept true (assignment o) ms w = w
  span_kept true (space o) ms w = w
  span_kept true (access o) ms w = w
  span_kept true (path p) ms w = w

  extra_kept : (b : Bool) (x : Extra) (ms : Members) → PM ms → PM (put_extra b x ms)
  extra_kept b a_span ms w = w
  extra_kept true second_form ms w = kept.of_put (codes "form") (number (unsigned 2)) ms (kept.of_whole 2) w
  extra_kept false second_form ms w = w

  head_kept : (h : Head) (l : SpelledLabel) (ms : Members) → PM ms → PM (put_head h l ms)
  head_kept (fixed m) l ms w = w
  head_kept (chosen k words) l ms w = kept.of_put k (text_or_null (word_of words l)) ms (word_kept (word_of words l)) w
  head_kept (placed spans k) l ms w = span_kept spans l ms w

  marks_kept : (row : Row) (ms : Members) → PM ms → PM (marks row ms)
  marks_kept (marked k w row) ms h = kept.of_put k (string w) (marks row ms) (kept.of_text w) (marks_kept row ms h)
  marks_kept (beside b x row) ms h = extra_kept b x (marks row ms) (marks_kept row ms h)
  marks_kept nothing ms h = h
  marks_kept (needs k f row) ms h = h
  marks_kept (may k f row) ms h = h
  marks_kept (many k f row) ms h = h
  marks_kept (given l row) ms h = h
  marks_kept (inner i ins row) ms h = h
  marks_kept (inner_where k i ins row) ms h = h

  abbrev KeepsRows : Writes → Type 0
  KeepsRows inside = (row : Row) (ms : Members) → PM ms → PM (inside.row row ms)

  by_node : (f : Option Node) (l : SpelledLabel) (inside : Writes) → KeepsRows inside → P (object_value f l inside)
  by_node None l inside h = kept.of_null
  by_node (Some n) l inside h =
      let others = inside.row (unmarked n.row) no_members in
      kept.of_object (put_head n.head l (marks n.row others)) (head_kept n.head l (marks n.row others) (marks_kept n.row others (h (unmarked n.row) no_members kept.of_no_members)))

  by_short : (o : Option Data) (f : Option Node) (l : SpelledLabel) (inside : Writes) → HoldsOfOption o → KeepsRows inside → P (elim o as (λ _. Data) [ Some d ↦ d | None ↦ object_value f l inside ])
  by_short None f l inside h k = by_node f l inside k
  by_short (Some d) f l inside h k = h

  -- what trees after one another are written as
  record AreKept (w : Writes) : Type 0 where
    pub value : (f : Form) → P (w.value f)
    pub members : (h : Head) (row : Row) (ms : Members) → PM ms → PM (w.members h row ms)
    pub items : (m : Name) → PI (w.items m)
    pub row : KeepsRows w

  value_kept : (spans : Bool) (l : SpelledLabel) (c : SpelledForest) → AreKept (written_forest spans c) → (f : Form) → P (value_at spans l c (written_forest spans c) f)
  value_kept spans l c inside (leaf f) = leaf_kept f l
  value_kept spans l c inside (list_of k m) = kept.of_list ((written_forest spans c).items m) (inside.items m)
  value_kept spans l c inside (node m) = by_short (short_value spans m l c) (first_fit (candidates spans m) l c) l (written_forest spans c) (short_kept spans m l c) inside.row

  row_kept : (spans : Bool) (l : SpelledLabel) (c o : SpelledForest) → AreKept (written_forest spans c) → AreKept (written_forest spans o) → KeepsRows (written_forest spans (tree l c o))
  row_kept spans l c o inside later nothing ms h = h
  row_kept spans l c o inside later (marked k w row) ms h = h
  row_kept spans l c o inside later (beside b x row) ms h = h
  row_kept spans l c o inside later (needs k f row) ms h = kept.of_put k (value_at spans l c (written_forest spans c) f) ((written_forest spans o).row row ms) (value_kept spans l c inside f) (later.row row ms h)
  row_kept spans l c o inside later (may k f row) ms h =
      let rest = (written_forest spans o).row row ms in
      unless (is_absent l) rest (put k ((written_forest spans c).value f) rest) (later.row row ms h) (kept.of_put k ((written_forest spans c).value f) rest (inside.value f) (later.row row ms h))
  row_kept spans l c o inside later (many k f row) ms h =
      let rest = (written_forest spans o).row row ms in
      let v = value_at spans l c (written_forest spans c) f in
      unless (is_empty_array v) rest (put k v rest) (later.row row ms h) (kept.of_put k v rest (value_kept spans l c inside f) (later.row row ms h))
  row_kept spans l c o inside later (given m row) ms h = later.row row ms h
  row_kept spans l c o inside later (inner i ins row) ms h = head_kept i l ((written_forest spans c).row ins ((written_forest spans o).row row ms)) (inside.row ins ((written_forest spans o).row row ms) (later.row row ms h))
  row_kept spans l c o inside later (inner_where k i ins row) ms h =
      let rest = (written_forest spans o).row row ms in
      unless (is_absent l) rest ((written_forest spans c).members i ins rest) (later.row row ms h) (inside.members i ins rest (later.row row ms h))

  all_kept : (spans : Bool) (ts : SpelledForest) → AreKept (written_forest spans ts)
  all_kept spans end = record { value = λ f. kept.of_null; members = λ h row ms w. w; items = λ m. kept.of_no_items; row = λ row ms w. w }
  all_kept spans (tree l c o) =
      let inside = all_kept spans c in
      let later = all_kept spans o in
      record {
        value = value_kept spans l c inside;
        members = λ h ins ms w. head_kept h l ((written_forest spans c).row ins ms) (inside.row ins ms w);
        items = λ m. kept.of_item (value_at spans l c (written_forest spans c) (node m)) ((written_forest spans o).items m) (value_kept spans l c inside (node m)) (later.items m);
        row = row_kept spans l c o inside later;
      }

  -- each tree is written so
  pub written_kept : (spans : Bool) (f : Form) (t : Spelled) → P (written spans f t)
  written_kept spans f t = (all_kept spans (before t end)).value f

  pub unit_kept : (spans : Bool) (u : UnitView) → P (written_as spans u)
  unit_kept spans u = written_kept spans (node a_unit) (unit_tree (shown_unit spans u))
