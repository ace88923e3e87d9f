-- Trees that differ in their names alone are written alike but for texts, so with the same numbers.
use Rattle.std.proofs.Common.{◌≡◌, ℕ, zero, suc, List, [], ◌∷◌, Bool, true, false, ◌&&◌, ◌||◌, if◌then◌else◌, Option, Some, None, option_map, option_and_then, refl, sym, ap, ap₂, ◌∙◌, Ordering, Less, Equal, Greater}
use Rattle.std.specs.Option.{is_some}
use Rattle.std.specs.Ordering.{nat_cmp, match_ordering}
use Rattle.std.specs.Cmp.Lexicographic.{slice_cmp}
use Rattle.serde_json.specs.Data.{Data, null, boolean, number, string, array, object, Items, no_items, item, Members, no_members, member, put}
use Rattle.wesl_tree_names.specs.Path.{Text}
use Rattle.wesl_tree_syntax.specs.Tree.{Kind, LabelOf, ForestOf, kind, at, ident, text, texts, truth, unary, binary, assignment, space, access, path, end, tree, absent, literal, type_or_identifier}
use Rattle.wesl_tree_syntax.specs.Shown.{shown_label, shown_forest}
use Rattle.wesl_json_form.specs.Schema.{SpelledForest, SpelledLabel, Words, Leaf, an_ident, a_name, a_text, a_literal, some_names, a_path, one_of, anything, extra, Extra, a_span, second_form, Name, a_unit, an_import, a_content, an_entry, a_directive, a_declaration, a_member, a_parameter, a_body, a_statement, an_elif, an_else, a_clause, a_case, a_continuing, a_break_if, a_call, a_type, a_template_argument, an_expression, an_attribute, Form, leaf, list_of, node, Head, fixed, chosen, placed, Row, nothing, marked, needs, may, many, given, inner, inner_where, beside, Node}
use Rattle.wesl_json_form.specs.Words.{attribute_words}
use Rattle.wesl_json_form.specs.Writing.{same_label, word_of, is_absent, label_value, leaf_value, text_or_null, fits_head, fits_row, first_fit, candidates, children_of_first, label_at, ident_in, truth_in, is_absent_at, short_type_value, has_label, short_expression_value, put_extra, put_span, is_placed, short_inside, short_value, Writes, is_empty_array, put_list, put_head, marks, unmarked, object_value, value_at, written_forest}
use Rattle.wesl_json_light.specs.Numbers.{has_number, items_have_number, members_have_number}
use Rattle.wesl_json_laws.specs.Places.{is_place, has_place}

-- ---- values without their texts

abbrev mutual
  pub blank : Data → Data
  blank null = null
  blank (boolean b) = boolean b
  blank (number n) = number n
  blank (string s) = string []
  blank (array ds) = array (blank_items ds)
  blank (object ms) = object (blank_members ms)

  pub blank_items : Items → Items
  blank_items no_items = no_items
  blank_items (item d ds) = item (blank d) (blank_items ds)

  pub blank_members : Members → Members
  blank_members no_members = no_members
  blank_members (member k d ms) = member k (blank d) (blank_members ms)

mutual
  blank_number : (d : Data) → has_number (blank d) ≡ has_number d
  blank_number null = refl
  blank_number (boolean b) = refl
  blank_number (number n) = refl
  blank_number (string s) = refl
  blank_number (array ds) = blank_items_number ds
  blank_number (object ms) = blank_members_number ms

  blank_items_number : (ds : Items) → items_have_number (blank_items ds) ≡ items_have_number ds
  blank_items_number no_items = refl
  blank_items_number (item d ds) = ap₂ (λ a b. a || b) (blank_number d) (blank_items_number ds)

  blank_members_number : (ms : Members) → members_have_number (blank_members ms) ≡ members_have_number ms
  blank_members_number no_members = refl
  blank_members_number (member k d ms) = ap₂ (λ a b. a || b) (blank_number d) (blank_members_number ms)

pub same_number : (d e : Data) → blank d ≡ blank e → has_number d ≡ has_number e
same_number d e h = sym (blank_number d) ∙ ap has_number h ∙ blank_number e

blank_put : (k : Text) (d : Data) (ms : Members) → blank_members (put k d ms) ≡ put k (blank d) (blank_members ms)
blank_put k d no_members = refl
blank_put k d (member l e ms) = at_order (slice_cmp nat_cmp k l) (blank_put k d ms)
  where
    at_order : (o : Ordering) → blank_members (put k d ms) ≡ put k (blank d) (blank_members ms)
        → blank_members (match_ordering o (member k d (member l e ms)) (member l d ms) (member l e (put k d ms)))
        ≡ match_ordering o (member k (blank d) (member l (blank e) (blank_members ms))) (member l (blank d) (blank_members ms)) (member l (blank e) (put k (blank d) (blank_members ms)))
    at_order Less h = refl
    at_order Equal h = refl
    at_order Greater h = ap (member l (blank e)) h

put_alike : (k : Text) (d e : Data) (ms ns : Members) → blank d ≡ blank e → blank_members ms ≡ blank_members ns → blank_members (put k d ms) ≡ blank_members (put k e ns)
put_alike k d e ms ns h i = blank_put k d ms ∙ ap₂ (put k) h i ∙ sym (blank_put k e ns)

blank_empty : (d : Data) → is_empty_array (blank d) ≡ is_empty_array d
blank_empty null = refl
blank_empty (boolean b) = refl
blank_empty (number n) = refl
blank_empty (string s) = refl
blank_empty (array no_items) = refl
blank_empty (array (item d ds)) = refl
blank_empty (object ms) = refl

either_alike : (b : Bool) (ms ns os qs : Members) → blank_members ms ≡ blank_members os → blank_members ns ≡ blank_members qs → blank_members (if b then ms else ns) ≡ blank_members (if b then os else qs)
either_alike true ms ns os qs h i = h
either_alike false ms ns os qs h i = i

list_alike : (k : Text) (d e : Data) (ms ns : Members) → blank d ≡ blank e → blank_members ms ≡ blank_members ns → blank_members (put_list k d ms) ≡ blank_members (put_list k e ns)
list_alike k d e ms ns h i =
    rw (sym (blank_empty d) ∙ ap is_empty_array h ∙ blank_empty e) (either_alike (is_empty_array e) ms (put k d ms) ns (put k e ns) i (put_alike k d e ms ns h i))

extra_alike : (b : Bool) (x : Extra) (ms ns : Members) → blank_members ms ≡ blank_members ns → blank_members (put_extra b x ms) ≡ blank_members (put_extra b x ns)
extra_alike b a_span ms ns h = h
extra_alike true second_form ms ns h = put_alike _ _ _ ms ns refl h
extra_alike false second_form ms ns h = h

marks_alike : (row : Row) (ms ns : Members) → blank_members ms ≡ blank_members ns → blank_members (marks row ms) ≡ blank_members (marks row ns)
marks_alike (marked k w row) ms ns h = put_alike k (string w) (string w) (marks row ms) (marks row ns) refl (marks_alike row ms ns h)
marks_alike (beside b x row) ms ns h = extra_alike b x (marks row ms) (marks row ns) (marks_alike row ms ns h)
marks_alike nothing ms ns h = h
marks_alike (needs k f row) ms ns h = h
marks_alike (may k f row) ms ns h = h
marks_alike (many k f row) ms ns h = h
marks_alike (given l row) ms ns h = h
marks_alike (inner i ins row) ms ns h = h
marks_alike (inner_where k i ins row) ms ns h = h

-- ---- options

abbrev AlikeOptions : Option Data → Option Data → Type 0
AlikeOptions x y = option_map blank x ≡ option_map blank y

either_option : (b : Bool) (x y u v : Option Data) → AlikeOptions x u → AlikeOptions y v → AlikeOptions (if b then x else y) (if b then u else v)
either_option true x y u v h i = h
either_option false x y u v h i = i

unless_option : (b : Bool) (x y : Option Data) → AlikeOptions x y → AlikeOptions (option_and_then (λ d. if b then None else Some d) x) (option_and_then (λ d. if b then None else Some d) y)
unless_option b None None h = refl
unless_option true (Some d) (Some e) h = refl
unless_option false (Some d) (Some e) h = h
unless_option b None (Some e) h = absurd (let x : ⊥ = cc in x)
unless_option b (Some d) None h = absurd (let x : ⊥ = cc in x)

by_short : (x y : Option Data) (u v : Data) → AlikeOptions x y → blank u ≡ blank v → blank (elim x as (λ _. Data) [ Some d ↦ d | None ↦ u ]) ≡ blank (elim y as (λ _. Data) [ Some d ↦ d | None ↦ v ])
by_short None None u v h i = i
by_short (Some d) (Some e) u v h i = let same : blank d ≡ blank e = cc in same
by_short None (Some e) u v h i = absurd (let x : ⊥ = cc in x)
by_short (Some d) None u v h i = absurd (let x : ⊥ = cc in x)

none_alike : (b : Bool) (x y : SpelledLabel) → is_some (if b then Some x else None) ≡ is_some (if b then Some y else None)
none_alike true x y = refl
none_alike false x y = refl

module _ (f g : ℕ → Text) where
  -- ---- labels

  abbrev one : LabelOf ℕ → SpelledLabel
  one l = shown_label true f l

  abbrev other : LabelOf ℕ → SpelledLabel
  other l = shown_label true g l

  abbrev ones : ForestOf ℕ → SpelledForest
  ones ts = shown_forest true f ts

  abbrev others : ForestOf ℕ → SpelledForest
  others ts = shown_forest true g ts

  no_ident : (m : SpelledLabel) (l : LabelOf ℕ) → same_label m (one l) ≡ same_label m (other l)
  no_ident m (kind k) = refl
  no_ident m (at k s e) = refl
  no_ident m (text x) = refl
  no_ident m (texts xs) = refl
  no_ident m (truth b) = refl
  no_ident m (unary o) = refl
  no_ident m (binary o) = refl
  no_ident m (assignment o) = refl
  no_ident m (space s) = refl
  no_ident m (access a) = refl
  no_ident m (path p) = refl
  no_ident (kind k) (ident r i) = refl
  no_ident (at k s e) (ident r i) = refl
  no_ident (ident q x) (ident r i) = refl
  no_ident (text x) (ident r i) = refl
  no_ident (texts xs) (ident r i) = refl
  no_ident (truth b) (ident r i) = refl
  no_ident (unary o) (ident r i) = refl
  no_ident (binary o) (ident r i) = refl
  no_ident (assignment o) (ident r i) = refl
  no_ident (space s) (ident r i) = refl
  no_ident (access a) (ident r i) = refl
  no_ident (path p) (ident r i) = refl

  words_alike : (ws : Words) (l : LabelOf ℕ) → word_of ws (one l) ≡ word_of ws (other l)
  words_alike [] l = refl
  words_alike (p ∷ ps) l = ap₂ (λ (b : Bool) (o : Option Text). if b then Some p.0 else o) (no_ident p.1 l) (words_alike ps l)

  label_alike : (l : LabelOf ℕ) → blank (label_value (one l)) ≡ blank (label_value (other l))
  label_alike (kind k) = refl
  label_alike (at k s e) = refl
  label_alike (ident r i) = refl
  label_alike (text x) = refl
  label_alike (texts xs) = refl
  label_alike (truth b) = refl
  label_alike (unary o) = refl
  label_alike (binary o) = refl
  label_alike (assignment o) = refl
  label_alike (space s) = refl
  label_alike (access a) = refl
  label_alike (path p) = refl

  leaf_alike : (lf : Leaf) (l : LabelOf ℕ) → blank (leaf_value lf (one l)) ≡ blank (leaf_value lf (other l))
  leaf_alike (one_of words) l = ap (λ o. blank (text_or_null o)) (words_alike words l)
  leaf_alike (an_ident r) l = label_alike l
  leaf_alike a_name l = label_alike l
  leaf_alike a_text l = label_alike l
  leaf_alike a_literal l = label_alike l
  leaf_alike some_names l = label_alike l
  leaf_alike a_path l = label_alike l
  leaf_alike anything l = label_alike l
  leaf_alike (extra x) l = label_alike l

  span_alike : (b : Bool) (l : LabelOf ℕ) (ms ns : Members) → blank_members ms ≡ blank_members ns → blank_members (put_span b (one l) ms) ≡ blank_members (put_span b (other l) ns)
  span_alike false l ms ns h = h
  span_alike true (at k s e) ms ns h = either_alike _ ms _ ns _ h (put_alike _ _ _ ms ns refl h)
  span_alike true (kind k) ms ns h = h
  span_alike true (ident r i) ms ns h = h
  span_alike true (text x) ms ns h = h
  span_alike true (texts xs) ms ns h = h
  span_alike true (truth b) ms ns h = h
  span_alike true (unary o) ms ns h = h
  span_alike true (binary o) ms ns h = h
  span_alike true (assignment o) ms ns h = h
  span_alike true (space s) ms ns h = h
  span_alike true (access a) ms ns h = h
  span_alike true (path p) ms ns h = h

  head_alike : (h : Head) (l : LabelOf ℕ) (ms ns : Members) → blank_members ms ≡ blank_members ns → blank_members (put_head h (one l) ms) ≡ blank_members (put_head h (other l) ns)
  head_alike (fixed m) l ms ns i = i
  head_alike (chosen k words) l ms ns i = put_alike k (text_or_null (word_of words (one l))) (text_or_null (word_of words (other l))) ms ns (ap (λ o. blank (text_or_null o)) (words_alike words l)) i
  head_alike (placed b k) l ms ns i = span_alike b l ms ns i

  -- ---- which node a tree is

  heads_fit : (h : Head) (l : LabelOf ℕ) → fits_head h (one l) ≡ fits_head h (other l)
  heads_fit (fixed m) l = no_ident m l
  heads_fit (chosen k words) l = ap (λ o. is_some o) (words_alike words l)
  heads_fit (placed b k) l = no_ident (at k 0 0) l

  rows_fit : (row : Row) (ts : ForestOf ℕ) → fits_row row (ones ts) ≡ fits_row row (others ts)
  rows_fit nothing end = refl
  rows_fit nothing (tree l c o) = refl
  rows_fit (marked k w row) ts = rows_fit row ts
  rows_fit (beside b x row) ts = rows_fit row ts
  rows_fit (needs k x row) end = refl
  rows_fit (needs k x row) (tree l c o) = rows_fit row o
  rows_fit (may k x row) end = refl
  rows_fit (may k x row) (tree l c o) = rows_fit row o
  rows_fit (many k x row) end = refl
  rows_fit (many k x row) (tree l c o) = rows_fit row o
  rows_fit (given m row) end = refl
  rows_fit (given m row) (tree l c o) = ap₂ (λ a b. a && b) (no_ident m l) (rows_fit row o)
  rows_fit (inner h ins row) end = refl
  rows_fit (inner h ins row) (tree l c o) = ap₂ (λ a b. a && b) (ap₂ (λ a b. a && b) (heads_fit h l) (rows_fit ins c)) (rows_fit row o)
  rows_fit (inner_where k h ins row) end = refl
  rows_fit (inner_where k h ins row) (tree l c o) = rows_fit row o

  nodes_fit : (ns : List Node) (l : LabelOf ℕ) (c : ForestOf ℕ) → first_fit ns (one l) (ones c) ≡ first_fit ns (other l) (others c)
  nodes_fit [] l c = refl
  nodes_fit (n ∷ ns) l c = ap₂ (λ (b : Bool) (o : Option Node). if b then Some n else o) (ap₂ (λ a b. a && b) (heads_fit n.head l) (rows_fit n.row c)) (nodes_fit ns l c)

  -- ---- short forms

  absent_at : (n : ℕ) (ts : ForestOf ℕ) → is_absent_at n (ones ts) ≡ is_absent_at n (others ts)
  absent_at n end = refl
  absent_at zero (tree l c o) = rw (no_ident (kind absent) l) (none_alike (is_absent (other l)) (one l) (other l))
  absent_at (suc n) (tree l c o) = absent_at n o

  idents_alike : (l : LabelOf ℕ) → AlikeOptions (option_map string (ident_in (one l))) (option_map string (ident_in (other l)))
  idents_alike (kind k) = refl
  idents_alike (at k s e) = refl
  idents_alike (ident r i) = refl
  idents_alike (text x) = refl
  idents_alike (texts xs) = refl
  idents_alike (truth b) = refl
  idents_alike (unary o) = refl
  idents_alike (binary o) = refl
  idents_alike (assignment o) = refl
  idents_alike (space s) = refl
  idents_alike (access a) = refl
  idents_alike (path p) = refl

  ident_at : (n : ℕ) (ts : ForestOf ℕ) → AlikeOptions (option_map string (option_and_then ident_in (label_at n (ones ts)))) (option_map string (option_and_then ident_in (label_at n (others ts))))
  ident_at n end = refl
  ident_at zero (tree l c o) = idents_alike l
  ident_at (suc n) (tree l c o) = ident_at n o

  truths_alike : (l : LabelOf ℕ) → truth_in (one l) ≡ truth_in (other l)
  truths_alike (kind k) = refl
  truths_alike (at k s e) = refl
  truths_alike (ident r i) = refl
  truths_alike (text x) = refl
  truths_alike (texts xs) = refl
  truths_alike (truth b) = refl
  truths_alike (unary o) = refl
  truths_alike (binary o) = refl
  truths_alike (assignment o) = refl
  truths_alike (space s) = refl
  truths_alike (access a) = refl
  truths_alike (path p) = refl

  -- the trees below the first of these
  abbrev inside : ForestOf ℕ → ForestOf ℕ
  inside end = end
  inside (tree l c o) = c

  one_inside : (ts : ForestOf ℕ) → children_of_first (ones ts) ≡ ones (inside ts)
  one_inside end = refl
  one_inside (tree l c o) = refl

  other_inside : (ts : ForestOf ℕ) → children_of_first (others ts) ≡ others (inside ts)
  other_inside end = refl
  other_inside (tree l c o) = refl

  truth_at : (ts : ForestOf ℕ) → option_and_then truth_in (label_at 0 (ones ts)) ≡ option_and_then truth_in (label_at 0 (others ts))
  truth_at end = refl
  truth_at (tree l c o) = truths_alike l

  label_there : (k : Kind) (ts : ForestOf ℕ) → has_label k (ones ts) ≡ has_label k (others ts)
  label_there k end = refl
  label_there k (tree l c o) = rw (no_ident (kind k) l) (none_alike (same_label (kind k) (other l)) (one l) (other l))

  type_alike : (ts : ForestOf ℕ) → AlikeOptions (short_type_value (ones ts)) (short_type_value (others ts))
  type_alike ts = rw (absent_at 0 ts, absent_at 2 ts) (either_option (is_absent_at 0 (others ts) && is_absent_at 2 (others ts)) _ None _ None (ident_at 1 ts) refl)

  expression_alike : (ts : ForestOf ℕ) → AlikeOptions (short_expression_value (ones ts)) (short_expression_value (others ts))
  expression_alike ts =
      rw (label_there literal ts, label_there type_or_identifier ts, one_inside ts, other_inside ts, one_inside (inside ts), other_inside (inside ts))
      (either_option (has_label literal (others ts)) _ _ _ _ (ap (λ o. option_map blank (option_map boolean o)) (truth_at (inside ts)))
      (either_option (has_label type_or_identifier (others ts)) _ None _ None (type_alike (inside (inside ts))) refl))

  placed_alike : (l : LabelOf ℕ) → is_placed true (one l) ≡ is_placed true (other l)
  placed_alike (kind k) = refl
  placed_alike (at k s e) = refl
  placed_alike (ident r i) = refl
  placed_alike (text x) = refl
  placed_alike (texts xs) = refl
  placed_alike (truth b) = refl
  placed_alike (unary o) = refl
  placed_alike (binary o) = refl
  placed_alike (assignment o) = refl
  placed_alike (space s) = refl
  placed_alike (access a) = refl
  placed_alike (path p) = refl

  holder_alike : (ts : ForestOf ℕ) → AlikeOptions (short_inside true (ones ts)) (short_inside true (others ts))
  holder_alike end = refl
  holder_alike (tree l c o) = rw (placed_alike l) (unless_option (is_placed true (other l)) (short_expression_value (ones c)) (short_expression_value (others c)) (expression_alike c))

  attribute_at : (ts : ForestOf ℕ) → option_and_then (word_of attribute_words) (label_at 0 (ones ts)) ≡ option_and_then (word_of attribute_words) (label_at 0 (others ts))
  attribute_at end = refl
  attribute_at (tree l c o) = words_alike attribute_words l

  short_alike : (m : Name) (l : LabelOf ℕ) (c : ForestOf ℕ) → AlikeOptions (short_value true m (one l) (ones c)) (short_value true m (other l) (others c))
  short_alike a_unit l c = refl
  short_alike an_import l c = refl
  short_alike a_content l c = refl
  short_alike an_entry l c = refl
  short_alike a_directive l c = refl
  short_alike a_declaration l c = refl
  short_alike a_member l c = refl
  short_alike a_parameter l c = refl
  short_alike a_body l c = refl
  short_alike a_statement l c = refl
  short_alike an_elif l c = refl
  short_alike an_else l c = refl
  short_alike a_clause l c = refl
  short_alike a_continuing l c = refl
  short_alike a_break_if l c = refl
  short_alike a_call l c = refl
  short_alike a_type l c = type_alike c
  short_alike a_case l c = holder_alike c
  short_alike a_template_argument l c = holder_alike c
  short_alike an_expression l c = rw (placed_alike l) (unless_option (is_placed true (other l)) (short_expression_value (ones c)) (short_expression_value (others c)) (expression_alike c))
  short_alike an_attribute l c = rw (placed_alike l, attribute_at c) refl

  -- ---- trees

  abbrev KeepsRows : Writes → Writes → Type 0
  KeepsRows a b = (row : Row) (ms ns : Members) → blank_members ms ≡ blank_members ns → blank_members (a.row row ms) ≡ blank_members (b.row row ns)

  -- what trees after one another are written as
  record AreAlike (a b : Writes) : Type 0 where
    pub value : (x : Form) → blank (a.value x) ≡ blank (b.value x)
    pub members : (h : Head) (row : Row) (ms ns : Members) → blank_members ms ≡ blank_members ns → blank_members (a.members h row ms) ≡ blank_members (b.members h row ns)
    pub items : (m : Name) → blank_items (a.items m) ≡ blank_items (b.items m)
    pub row : KeepsRows a b

  abbrev ForestsAlike : ForestOf ℕ → Type 0
  ForestsAlike ts = AreAlike (written_forest true (ones ts)) (written_forest true (others ts))

  object_alike : (n : Option Node) (l : LabelOf ℕ) (a b : Writes) → KeepsRows a b → blank (object_value n (one l) a) ≡ blank (object_value n (other l) b)
  object_alike None l a b keeps = refl
  object_alike (Some n) l a b keeps =
      let first = a.row (unmarked n.row) no_members in
      let second = b.row (unmarked n.row) no_members in
      ap object (head_alike n.head l (marks n.row first) (marks n.row second) (marks_alike n.row first second (keeps (unmarked n.row) no_members no_members refl)))

  value_alike : (l : LabelOf ℕ) (c : ForestOf ℕ) → ForestsAlike c → (x : Form) → blank (value_at true (one l) (ones c) (written_forest true (ones c)) x) ≡ blank (value_at true (other l) (others c) (written_forest true (others c)) x)
  value_alike l c below (leaf lf) = leaf_alike lf l
  value_alike l c below (list_of k m) = ap array (below.items m)
  value_alike l c below (node m) =
      let u = object_value (first_fit (candidates true m) (one l) (ones c)) (one l) (written_forest true (ones c)) in
      let v = object_value (first_fit (candidates true m) (other l) (others c)) (other l) (written_forest true (others c)) in
      by_short (short_value true m (one l) (ones c)) (short_value true m (other l) (others c)) u v (short_alike m l c)
      (ap (λ n. blank (object_value n (one l) (written_forest true (ones c)))) (nodes_fit (candidates true m) l c)
      ∙ object_alike (first_fit (candidates true m) (other l) (others c)) l (written_forest true (ones c)) (written_forest true (others c)) below.row)

  row_alike : (l : LabelOf ℕ) (c o : ForestOf ℕ) → ForestsAlike c → ForestsAlike o → KeepsRows (written_forest true (ones (tree l c o))) (written_forest true (others (tree l c o)))
  row_alike l c o below after nothing ms ns h = h
  row_alike l c o below after (marked k w row) ms ns h = h
  row_alike l c o below after (beside b x row) ms ns h = h
  row_alike l c o below after (needs k x row) ms ns h = put_alike k _ _ _ _ (value_alike l c below x) (after.row row ms ns h)
  row_alike l c o below after (may k x row) ms ns h = rw (no_ident (kind absent) l) (either_alike (is_absent (other l)) _ _ _ _ (after.row row ms ns h) (put_alike k _ _ _ _ (below.value x) (after.row row ms ns h)))
  row_alike l c o below after (many k x row) ms ns h = list_alike k _ _ _ _ (value_alike l c below x) (after.row row ms ns h)
  row_alike l c o below after (given m row) ms ns h = after.row row ms ns h
  row_alike l c o below after (inner i ins row) ms ns h = head_alike i l _ _ (below.row ins _ _ (after.row row ms ns h))
  row_alike l c o below after (inner_where k i ins row) ms ns h = rw (no_ident (kind absent) l) (either_alike (is_absent (other l)) _ _ _ _ (after.row row ms ns h) (below.members i ins _ _ (after.row row ms ns h)))

  forests_alike : (ts : ForestOf ℕ) → ForestsAlike ts
  forests_alike end = record { value = λ x. refl; members = λ h row ms ns i. i; items = λ m. refl; row = λ row ms ns i. i }
  forests_alike (tree l c o) =
      let below = forests_alike c in
      let after = forests_alike o in
      record {
        value = value_alike l c below;
        members = λ h ins ms ns i. head_alike h l _ _ (below.row ins ms ns i);
        items = λ m. ap₂ item (value_alike l c below (node m)) (after.items m);
        row = row_alike l c o below after;
      }

  -- a number stands in what trees of one naming are written as where it stands in those of the other
  pub same_numbers : (ts : ForestOf ℕ) (x : Form) → has_number ((written_forest true (ones ts)).value x) ≡ has_number ((written_forest true (others ts)).value x)
  same_numbers ts x = same_number _ _ ((forests_alike ts).value x)

-- ---- places

module _ {I J : Type 0} (f : I → J) where
  place_shown : (l : LabelOf I) → is_place (shown_label true f l) ≡ is_place l
  place_shown (kind k) = refl
  place_shown (at k s e) = refl
  place_shown (ident r i) = refl
  place_shown (text x) = refl
  place_shown (texts xs) = refl
  place_shown (truth b) = refl
  place_shown (unary o) = refl
  place_shown (binary o) = refl
  place_shown (assignment o) = refl
  place_shown (space s) = refl
  place_shown (access a) = refl
  place_shown (path p) = refl

  -- naming changes no place
  pub places_shown : (ts : ForestOf I) → has_place (shown_forest true f ts) ≡ has_place ts
  places_shown end = refl
  places_shown (tree l c o) = rw (place_shown l, places_shown c, places_shown o) refl
