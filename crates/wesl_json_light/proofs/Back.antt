-- What a tree that fits is read as, once it is written.
use Rattle.std.proofs.Common.{◌≡◌, ℕ, zero, suc, ◌<◌, List, [], ◌∷◌, ◌++◌, Option, Some, None, Bool, true, false, ◌&&◌, if◌then◌else◌, option_map, option_and_then, codes, refl, ap, ◌∙◌, arith, subst, inl, inr}
use Rattle.std.specs.Option.{is_some}
use Rattle.std.specs.Str.{bytes_eq}
use Rattle.serde_json.specs.Data.{Data, string, object, number, unsigned, Members, no_members, put, depth, items_depth, members_depth}
use Rattle.serde_json.specs.Find.{get_member, as_object}
use Rattle.serde_json.proofs.Views.{get_member-put, get_member-put_other}
use Rattle.wesl_tree_names.specs.Path.{Text, Path}
use Rattle.wesl_tree_names.specs.PathText.{parse, to_text}
use Rattle.wesl_tree_syntax.specs.Tree.{Kind, kind, ident, text, texts, path, absent, present, end, tree, before}
use Rattle.wesl_json_form.specs.Schema.{Spelled, SpelledForest, SpelledLabel, leaf_of, nonempty, Leaf, some_names, Name, Form, leaf, list_of, node, Head, fixed, chosen, placed, Row, nothing, marked, inner, beside, a_span, second_form, Node}
use Rattle.wesl_json_form.specs.Nodes.{whole_form, nodes_of, shorts_of}
use Rattle.wesl_json_form.specs.Reading.{reading, leaf_label, label_in, children_in, present_tree, where_there, known_keys, head_keys, name_in, texts_in, items_in, is_literal, has_extra, extra_keys}
use Rattle.wesl_json_form.specs.Keys.{all_known}
use Rattle.wesl_json_form.specs.Writing.{written, written_forest, leaf_value, texts_value, put_head, text_or_null, word_of, short_value, first_fit, candidates, Writes, object_value, marks, unmarked, put_span, put_extra}
use Rattle.wesl_json_light.specs.Readable.{HasText, is_readable, are_readable, are_names}
use Rattle.wesl_json_light.proofs.Guards.{guard, map_guard, two_guards}
use Rattle.wesl_json_light.proofs.Rows.{keys, own_keys, span_key, members_of, is_in, same_text, apart as apart_keys, out_of, out_right, head_out, span_out}
use Rattle.wesl_json_light.proofs.Keys.{distinct, first_apart, others_apart, here, later, differ, in_left, in_right, left_apart, right_apart, not_left, not_right, known_put, found_low}
use Rattle.wesl_json_light.proofs.Paths.{HaveTexts, parts}
use Rattle.wesl_json_light.proofs.Fitting.{IsLeaf, an_identifier, literal_text, free_text, name_text, names_text, path_text, a_word, HasHead, node_with, label_shown, word_key, with_word, put_word, placed_node, holding_node, placed_keys, IsPicked, IsReadBy, IsPlainRow, Fits, a_leaf, a_list, plain_node, recast_node, worded_node, node_at, node_around, unit_node, short_node, AreFits, no_more, one_more, FitsRow, all_there, needed, left_out, put_in, listed, named, told, within, nowhere, somewhere, tree_of}
use Rattle.wesl_json_light.proofs.Spans.{has_span_beside, placed_label_back, span_beside, known_span}

-- ---- leaves

nonempty_guard : (s : Text) → nonempty s ≡ guard (is_some (nonempty s)) s
nonempty_guard [] = refl
nonempty_guard (x ∷ s) = refl

names_guard : (s : Text) (ss : List Text) → texts_in name_in (texts_value ss) ≡ guard (are_names ss) ss → texts_in name_in (texts_value (s ∷ ss)) ≡ guard (are_names (s ∷ ss)) (s ∷ ss)
names_guard [] ss h = refl
names_guard (x ∷ s) ss h = rw h (at (are_names ss))
  where
    at : (b : Bool) → option_and_then (λ ts. Some ((x ∷ s) ∷ ts)) (guard b ss) ≡ guard b ((x ∷ s) ∷ ss)
    at true = refl
    at false = refl

texts_guard : (ss : List Text) → texts_in name_in (texts_value ss) ≡ guard (are_names ss) ss
texts_guard [] = refl
texts_guard (s ∷ ss) = names_guard s ss (texts_guard ss)

abbrev path_label : Path → SpelledLabel
path_label q = path q

abbrev texts_label : List Text → SpelledLabel
texts_label ss = texts ss

path_guard : (q : Path) → HasText q → option_map path_label (parse (to_text q)) ≡ guard (is_some (parse (to_text q))) (path_label q)
path_guard q (inl h) = rw h refl
path_guard q (inr h) = rw h refl

pub leaf_back : {p l : SpelledLabel} {f : Leaf} → IsLeaf p f l → HaveTexts (tree l end end) → leaf_label f (leaf_value f l) ≡ guard (is_readable p l) l
leaf_back (an_identifier {r = r} {s = s}) h = ap (λ o. option_map (ident r) o) (nonempty_guard s) ∙ map_guard (ident r) (is_some (nonempty s)) s
leaf_back (literal_text {s = s}) h = map_guard text (is_literal s) s
leaf_back (free_text is) h = rw is refl
leaf_back (name_text {s = s} is) h = rw is (ap (λ o. option_map text o) (nonempty_guard s) ∙ map_guard text (is_some (nonempty s)) s)
leaf_back (names_text {ss = ss}) h = ap (λ o. option_map texts_label o) (texts_guard ss) ∙ map_guard texts_label (are_names ss) ss
leaf_back (path_text {q = q}) h = path_guard q h.0
leaf_back (a_word w is) h = rw (w.written, is) w.read

-- ---- rows

label_back : (h : Head) (l : SpelledLabel) (M rest : Members) → HasHead h l → ((q : Text) → is_in q (own_keys h) ≡ true → get_member q M ≡ get_member q (put_head h l rest)) → label_in h (object M) ≡ Some l
label_back (fixed m) l M rest is same = ap (λ x. Some x) is
label_back (placed spans k) l M rest is same = absurd is
label_back (chosen k words) l M rest is same = rw (same k (here k []), is.written, get_member-put k (text_or_null (Some is.word)) rest) is.read

three : (x y z : Bool) → ((x && (y && true)) && z) ≡ (x && (y && z))
three true true z = refl
three true false z = refl
three false y z = refl

-- the tree that is read first, and those that are read after it
join_trees : (p : SpelledLabel) (t : Spelled) (ts : SpelledForest) → option_and_then (λ x. option_and_then (λ xs. Some (before x xs)) (guard (are_readable p ts) ts)) (guard (are_readable p (before t end)) t) ≡ guard (are_readable p (before t ts)) (before t ts)
join_trees p t ts = two_guards before (are_readable p (before t end)) (are_readable p ts) t ts ∙ ap (λ b. guard b (before t ts)) (three (is_readable p t.label) (are_readable t.label t.children) (are_readable p ts))

join_inner : (l : SpelledLabel) (is ts : SpelledForest) (a b : Bool) → option_and_then (λ x. option_and_then (λ xs. Some (tree l x xs)) (guard b ts)) (guard a is) ≡ guard (a && b) (tree l is ts)
join_inner l is ts a b = two_guards (λ x xs. tree l x xs) a b is ts

join_option : (p : SpelledLabel) (f : Spelled) (ts : SpelledForest) (a b : Bool) → option_and_then (λ x. option_and_then (λ xs. Some (before x xs)) (guard b ts)) (option_map present_tree (guard a f)) ≡ guard (a && b) (before (present_tree f) ts)
join_option p f ts true true = refl
join_option p f ts true false = refl
join_option p f ts false b = refl

after_leaf : (l : SpelledLabel) (ts : SpelledForest) (b : Bool) → option_and_then (λ xs. Some (tree l end xs)) (guard b ts) ≡ guard b (tree l end ts)
after_leaf l ts true = refl
after_leaf l ts false = refl

join_there : (l : SpelledLabel) (is ts : SpelledForest) (a b : Bool)
    → option_and_then (λ x. option_and_then (λ xs. Some (before x xs)) (guard b ts)) (option_and_then (λ x. Some (present_tree (tree_of l x))) (guard a is)) ≡ guard ((a && true) && b) (before (present_tree (tree_of l is)) ts)
join_there l is ts true true = refl
join_there l is ts true false = refl
join_there l is ts false b = refl

join_where : (l : SpelledLabel) (is ts : SpelledForest) (o : Option Data) (v : Data) (la : Option SpelledLabel) (ins rest : Option SpelledForest) (a b : Bool) → o ≡ Some v → la ≡ Some l → ins ≡ guard a is → rest ≡ guard b ts
    → option_and_then (λ x. option_and_then (λ xs. Some (before x xs)) rest) (where_there (is_some o) la ins) ≡ guard ((a && true) && b) (before (present_tree (tree_of l is)) ts)
join_where l is ts o v la ins rest a b e f g h = rw (e, f, g, h) (join_there l is ts a b)

module _ (spans : Bool) (n : ℕ) (later_back : (p : SpelledLabel) (f : Form) (t : Spelled) → Fits spans p f t → HaveTexts (before t end) → depth (written spans f t) < n → reading (whole_form spans) n f (written spans f t) ≡ guard (are_readable p (before t end)) t) (M : Members) (low : members_depth M < n) where
  abbrev Agrees : Row → SpelledForest → Members → Type 0
  Agrees row ts ms = (q : Text) → is_in q (keys row) ≡ true → get_member q M ≡ get_member q (members_of spans row ts ms)

  abbrev IsFresh : Row → Members → Type 0
  IsFresh row ms = (q : Text) → is_in q (keys row) ≡ true → get_member q ms ≡ None

  abbrev IsRead : SpelledLabel → Row → SpelledForest → Type 0
  IsRead p row ts = children_in (reading (whole_form spans) n) row (object M) ≡ guard (are_readable p ts) ts

  -- what stands at a key is read
  member_back : (p : SpelledLabel) (k : Text) (f : Form) (t : Spelled) → Fits spans p f t → HaveTexts (before t end) → get_member k M ≡ Some (written spans f t) → reading (whole_form spans) n f (written spans f t) ≡ guard (are_readable p (before t end)) t
  member_back p k f t h ok there = let x = found_low k (written spans f t) M there in later_back p f t h ok (omega arith)

  -- after a member, and after none
  agrees_after : (k : Text) (d : Data) (row : Row) (ts : SpelledForest) (ms : Members) → distinct (k ∷ keys row) ≡ true → ((q : Text) → is_in q (k ∷ keys row) ≡ true → get_member q M ≡ get_member q (put k d (members_of spans row ts ms))) → Agrees row ts ms
  agrees_after k d row ts ms apart same q h = same q (later q k (keys row) h) ∙ get_member-put_other q k d (members_of spans row ts ms) (apart_keys k q (differ q k (keys row) (first_apart k (keys row) apart) h))

  agrees_none : (k : Text) (row : Row) (ts : SpelledForest) (ms : Members) → ((q : Text) → is_in q (k ∷ keys row) ≡ true → get_member q M ≡ get_member q (members_of spans row ts ms)) → Agrees row ts ms
  agrees_none k row ts ms same q h = same q (later q k (keys row) h)

  fresh_after : (k : Text) (row : Row) (ms : Members) → ((q : Text) → is_in q (k ∷ keys row) ≡ true → get_member q ms ≡ None) → IsFresh row ms
  fresh_after k row ms fresh q h = fresh q (later q k (keys row) h)

  missing : (k : Text) (row : Row) (ts : SpelledForest) (ms : Members) → distinct (k ∷ keys row) ≡ true → ((q : Text) → is_in q (k ∷ keys row) ≡ true → get_member q M ≡ get_member q (members_of spans row ts ms))
      → ((q : Text) → is_in q (k ∷ keys row) ≡ true → get_member q ms ≡ None) → get_member k M ≡ None
  missing k row ts ms apart same fresh = same k (here k (keys row)) ∙ (out_of spans k row ts ms (first_apart k (keys row) apart) ∙ fresh k (here k (keys row)))

  there : (k : Text) (d : Data) (row : Row) (ts : SpelledForest) (ms : Members) → ((q : Text) → is_in q (k ∷ keys row) ≡ true → get_member q M ≡ get_member q (put k d (members_of spans row ts ms))) → get_member k M ≡ Some d
  there k d row ts ms same = same k (here k (keys row)) ∙ get_member-put k d (members_of spans row ts ms)

  -- the members of a node in the same object, and those after it
  agrees_inner : (h : Head) (l : SpelledLabel) (ins row : Row) (is ts : SpelledForest) (ms : Members) → distinct (own_keys h ++ (keys ins ++ keys row)) ≡ true
      → ((q : Text) → is_in q (own_keys h ++ (keys ins ++ keys row)) ≡ true → get_member q M ≡ get_member q (put_head h l (members_of spans ins is (members_of spans row ts ms)))) → Agrees ins is (members_of spans row ts ms)
  agrees_inner h l ins row is ts ms apart same q x =
      let inside = in_left q (keys ins) (keys row) x in
      same q (in_right q (own_keys h) (keys ins ++ keys row) inside) ∙ head_out q h l (members_of spans ins is (members_of spans row ts ms)) (not_left q (own_keys h) (keys ins ++ keys row) apart inside)

  fresh_inner : (h : Head) (ins row : Row) (ts : SpelledForest) (ms : Members) → distinct (own_keys h ++ (keys ins ++ keys row)) ≡ true
      → ((q : Text) → is_in q (own_keys h ++ (keys ins ++ keys row)) ≡ true → get_member q ms ≡ None) → IsFresh ins (members_of spans row ts ms)
  fresh_inner h ins row ts ms apart fresh q x =
      out_of spans q row ts ms (not_right q (keys ins) (keys row) (right_apart (own_keys h) (keys ins ++ keys row) apart) x) ∙ fresh q (in_right q (own_keys h) (keys ins ++ keys row) (in_left q (keys ins) (keys row) x))

  agrees_outer : (h : Head) (l : SpelledLabel) (ins row : Row) (is ts : SpelledForest) (ms : Members) → distinct (own_keys h ++ (keys ins ++ keys row)) ≡ true
      → ((q : Text) → is_in q (own_keys h ++ (keys ins ++ keys row)) ≡ true → get_member q M ≡ get_member q (put_head h l (members_of spans ins is (members_of spans row ts ms)))) → Agrees row ts ms
  agrees_outer h l ins row is ts ms apart same q x =
      let inside = in_right q (keys ins) (keys row) x in
      same q (in_right q (own_keys h) (keys ins ++ keys row) inside)
      ∙ (head_out q h l (members_of spans ins is (members_of spans row ts ms)) (not_left q (own_keys h) (keys ins ++ keys row) apart inside)
      ∙ out_of spans q ins is (members_of spans row ts ms) (not_left q (keys ins) (keys row) (right_apart (own_keys h) (keys ins ++ keys row) apart) x))

  fresh_outer : (h : Head) (ins row : Row) (ms : Members) → ((q : Text) → is_in q (own_keys h ++ (keys ins ++ keys row)) ≡ true → get_member q ms ≡ None) → IsFresh row ms
  fresh_outer h ins row ms fresh q x = fresh q (in_right q (own_keys h) (keys ins ++ keys row) (in_right q (keys ins) (keys row) x))

  row_apart : (h : Head) (ins row : Row) → distinct (own_keys h ++ (keys ins ++ keys row)) ≡ true → distinct (keys row) ≡ true
  row_apart h ins row apart = right_apart (keys ins) (keys row) (right_apart (own_keys h) (keys ins ++ keys row) apart)

  ins_apart : (h : Head) (ins row : Row) → distinct (own_keys h ++ (keys ins ++ keys row)) ≡ true → distinct (keys ins) ≡ true
  ins_apart h ins row apart = left_apart (keys ins) (keys row) (right_apart (own_keys h) (keys ins ++ keys row) apart)

  -- an option that is not there
  missing_where : (k : Text) (ins row : Row) (ts : SpelledForest) (ms : Members) → distinct (k ∷ (keys ins ++ keys row)) ≡ true → ((q : Text) → is_in q (k ∷ (keys ins ++ keys row)) ≡ true → get_member q M ≡ get_member q (members_of spans row ts ms))
      → ((q : Text) → is_in q (k ∷ (keys ins ++ keys row)) ≡ true → get_member q ms ≡ None) → get_member k M ≡ None
  missing_where k ins row ts ms apart same fresh =
      same k (here k (keys ins ++ keys row)) ∙ (out_of spans k row ts ms (out_right k (keys ins) (keys row) (first_apart k (keys ins ++ keys row) apart)) ∙ fresh k (here k (keys ins ++ keys row)))

  pub row_back : {p : SpelledLabel} {row : Row} {ts : SpelledForest} → FitsRow spans p row ts → (ms : Members) → distinct (keys row) ≡ true → Agrees row ts ms → IsFresh row ms → HaveTexts ts → IsRead p row ts
  row_back all_there ms apart same fresh ok = refl
  row_back (needed {p = p} {k = k} {f = f} {row = row} {t = t} {ts = ts} h hs) ms apart same fresh ok =
      let q = parts t.label t.children ts ok in
      let v = there k (written spans f t) row ts ms same in
      let first = member_back p k f t h q.alone v in
      let rest = row_back hs ms (others_apart k (keys row) apart) (agrees_after k (written spans f t) row ts ms apart same) (fresh_after k row ms fresh) q.after in
      rw (v, first, rest) (join_trees p t ts)
  row_back (left_out {p = p} {k = k} {f = f} {row = row} {ts = ts} hs) ms apart same fresh ok =
      let v = missing k row ts ms apart same fresh in
      let rest = row_back hs ms (others_apart k (keys row) apart) (agrees_none k row ts ms same) (fresh_after k row ms fresh) ok in
      rw (v, rest) (after_leaf (kind absent) ts (are_readable p ts))
  row_back (put_in {p = p} {k = k} {f = f} {row = row} {t = t} {ts = ts} h hs) ms apart same fresh ok =
      let q = parts (kind present) (before t end) ts ok in
      let v = there k (written spans f t) row ts ms same in
      let first = member_back (kind present) k f t h q.below v in
      let rest = row_back hs ms (others_apart k (keys row) apart) (agrees_after k (written spans f t) row ts ms apart same) (fresh_after k row ms fresh) q.after in
      rw (v, first, rest) (join_option p t ts (are_readable (kind present) (before t end)) (are_readable p ts))
  row_back (listed {p = p} {k = k} {c = c} {m = m} {row = row} {ts = ts} no_more hs) ms apart same fresh ok =
      let v = missing k row ts ms apart same fresh in
      let rest = row_back hs ms (others_apart k (keys row) apart) (agrees_none k row ts ms same) (fresh_after k row ms fresh) ok in
      rw (v, rest) (after_leaf (kind c) ts (are_readable p ts))
  row_back (listed {p = p} {k = k} {c = c} {m = m} {row = row} {ts = ts} (one_more {t = t} {ts = is} h more) hs) ms apart same fresh ok =
      let whole = tree_of (kind c) (before t is) in
      let q = parts (kind c) (before t is) ts ok in
      let v = there k (written spans (list_of c m) whole) row ts ms same in
      let first = member_back p k (list_of c m) whole (a_list (one_more h more)) q.alone v in
      let rest = row_back hs ms (others_apart k (keys row) apart) (agrees_after k (written spans (list_of c m) whole) row ts ms apart same) (fresh_after k row ms fresh) q.after in
      rw (v, first, rest) (join_trees p whole ts)
  row_back (named {p = p} {k = k} {row = row} {ss = []} {ts = ts} hs) ms apart same fresh ok =
      let v = missing k row ts ms apart same fresh in
      let rest = row_back hs ms (others_apart k (keys row) apart) (agrees_none k row ts ms same) (fresh_after k row ms fresh) ok in
      rw (v, rest) (after_leaf (texts []) ts (are_readable p ts))
  row_back (named {p = p} {k = k} {row = row} {ss = s ∷ ss} {ts = ts} hs) ms apart same fresh ok =
      let whole = leaf_of (texts (s ∷ ss)) in
      let q = parts (texts (s ∷ ss)) end ts ok in
      let v = there k (written spans (leaf some_names) whole) row ts ms same in
      let first = member_back p k (leaf some_names) whole (a_leaf names_text) q.alone v in
      let rest = row_back hs ms (others_apart k (keys row) apart) (agrees_after k (written spans (leaf some_names) whole) row ts ms apart same) (fresh_after k row ms fresh) q.after in
      rw (v, first, rest) (join_trees p whole ts)
  row_back (told {p = p} {l = l} {row = row} {ts = ts} fine hs) ms apart same fresh ok =
      let q = parts l end ts ok in
      let rest = row_back hs ms apart same fresh q.after in
      rw (rest, fine) (after_leaf l ts (are_readable p ts))
  row_back (within {p = p} {l = l} {h = h} {ins = ins} {row = row} {is = is} {ts = ts} head fine his hs) ms apart same fresh ok =
      let q = parts l is ts ok in
      let word = label_back h l M (members_of spans ins is (members_of spans row ts ms)) head (λ x i. same x (in_left x (own_keys h) (keys ins ++ keys row) i)) in
      let first = row_back his (members_of spans row ts ms) (ins_apart h ins row apart) (agrees_inner h l ins row is ts ms apart same) (fresh_inner h ins row ts ms apart fresh) q.below in
      let rest = row_back hs ms (row_apart h ins row apart) (agrees_outer h l ins row is ts ms apart same) (fresh_outer h ins row ms fresh) q.after in
      rw (word, first, rest, fine) (join_inner l is ts (are_readable l is) (are_readable p ts))
  row_back (nowhere {p = p} {k = k} {words = words} {ins = ins} {row = row} {ts = ts} hs) ms apart same fresh ok =
      let v = missing_where k ins row ts ms apart same fresh in
      let rest = row_back hs ms (row_apart (chosen k words) ins row apart) (λ x i. same x (in_right x (k ∷ []) (keys ins ++ keys row) (in_right x (keys ins) (keys row) i))) (fresh_outer (chosen k words) ins row ms fresh) ok in
      rw (v, rest) (after_leaf (kind absent) ts (are_readable p ts))
  row_back (somewhere {p = p} {l = l} {k = k} {words = words} {ins = ins} {row = row} {is = is} {ts = ts} head fine his hs) ms apart same fresh ok =
      let q = parts (kind present) (tree l is end) ts ok in
      let r = parts l is end q.below in
      let h = chosen k words in
      let inside = members_of spans ins is (members_of spans row ts ms) in
      let v : get_member k M ≡ Some (text_or_null (word_of words l)) = same k (here k (keys ins ++ keys row)) ∙ get_member-put k (text_or_null (word_of words l)) inside in
      let word = label_back h l M inside head (λ x i. same x (in_left x (own_keys h) (keys ins ++ keys row) i)) in
      let first = row_back his (members_of spans row ts ms) (ins_apart h ins row apart) (agrees_inner h l ins row is ts ms apart same) (fresh_inner h ins row ts ms apart fresh) r.below in
      let rest = row_back hs ms (row_apart h ins row apart) (agrees_outer h l ins row is ts ms apart same) (fresh_outer h ins row ms fresh) q.after in
      rw fine (join_where l is ts (get_member k M) (text_or_null (word_of words l)) (label_in h (object M)) (children_in (reading (whole_form spans) n) ins (object M)) (children_in (reading (whole_form spans) n) row (object M)) (are_readable l is) (are_readable p ts) v word first rest)

  abbrev AreAmong : List Text → List Text → Type 0
  AreAmong some ks = (q : Text) → is_in q some ≡ true → is_in q ks ≡ true

  -- the keys of a head are known
  head_known : (h : Head) (l : SpelledLabel) (ks : List Text) (rest : Members) → HasHead h l → AreAmong (head_keys h) ks → all_known ks rest ≡ true → all_known ks (put_head h l rest) ≡ true
  head_known (fixed m) l ks rest head among known = known
  head_known (chosen k words) l ks rest head among known = known_put ks k (text_or_null (word_of words l)) rest (among k (here k [])) known
  head_known (placed b k) l ks rest head among known = absurd head

  -- the keys that are written are among those that the row may have
  pub row_known : {p : SpelledLabel} {row : Row} {ts : SpelledForest} → FitsRow spans p row ts → (ms : Members) → distinct (keys row) ≡ true → Agrees row ts ms → IsFresh row ms
      → (ks : List Text) → AreAmong (known_keys row (object M)) ks → all_known ks ms ≡ true → all_known ks (members_of spans row ts ms) ≡ true
  row_known all_there ms apart same fresh ks among known = known
  row_known (needed {k = k} {f = f} {row = row} {t = t} {ts = ts} h hs) ms apart same fresh ks among known =
      known_put ks k (written spans f t) (members_of spans row ts ms) (among k (here k (known_keys row (object M))))
      (row_known hs ms (others_apart k (keys row) apart) (agrees_after k (written spans f t) row ts ms apart same) (fresh_after k row ms fresh) ks (λ q x. among q (later q k (known_keys row (object M)) x)) known)
  row_known (left_out {k = k} {row = row} {ts = ts} hs) ms apart same fresh ks among known =
      row_known hs ms (others_apart k (keys row) apart) (agrees_none k row ts ms same) (fresh_after k row ms fresh) ks (λ q x. among q (later q k (known_keys row (object M)) x)) known
  row_known (put_in {k = k} {f = f} {row = row} {t = t} {ts = ts} h hs) ms apart same fresh ks among known =
      known_put ks k (written spans f t) (members_of spans row ts ms) (among k (here k (known_keys row (object M))))
      (row_known hs ms (others_apart k (keys row) apart) (agrees_after k (written spans f t) row ts ms apart same) (fresh_after k row ms fresh) ks (λ q x. among q (later q k (known_keys row (object M)) x)) known)
  row_known (listed {k = k} {row = row} {ts = ts} no_more hs) ms apart same fresh ks among known =
      row_known hs ms (others_apart k (keys row) apart) (agrees_none k row ts ms same) (fresh_after k row ms fresh) ks (λ q x. among q (later q k (known_keys row (object M)) x)) known
  row_known (listed {k = k} {c = c} {m = m} {row = row} {ts = ts} (one_more {t = t} {ts = is} h more) hs) ms apart same fresh ks among known =
      let v = written spans (list_of c m) (tree_of (kind c) (before t is)) in
      known_put ks k v (members_of spans row ts ms) (among k (here k (known_keys row (object M))))
      (row_known hs ms (others_apart k (keys row) apart) (agrees_after k v row ts ms apart same) (fresh_after k row ms fresh) ks (λ q x. among q (later q k (known_keys row (object M)) x)) known)
  row_known (named {k = k} {row = row} {ss = []} {ts = ts} hs) ms apart same fresh ks among known =
      row_known hs ms (others_apart k (keys row) apart) (agrees_none k row ts ms same) (fresh_after k row ms fresh) ks (λ q x. among q (later q k (known_keys row (object M)) x)) known
  row_known (named {k = k} {row = row} {ss = s ∷ ss} {ts = ts} hs) ms apart same fresh ks among known =
      let v = written spans (leaf some_names) (leaf_of (texts (s ∷ ss))) in
      known_put ks k v (members_of spans row ts ms) (among k (here k (known_keys row (object M))))
      (row_known hs ms (others_apart k (keys row) apart) (agrees_after k v row ts ms apart same) (fresh_after k row ms fresh) ks (λ q x. among q (later q k (known_keys row (object M)) x)) known)
  row_known (told fine hs) ms apart same fresh ks among known = row_known hs ms apart same fresh ks among known
  row_known (within {l = l} {h = h} {ins = ins} {row = row} {is = is} {ts = ts} head fine his hs) ms apart same fresh ks among known =
      let d = object M in
      let rest = row_known hs ms (row_apart h ins row apart) (agrees_outer h l ins row is ts ms apart same) (fresh_outer h ins row ms fresh) ks (λ q x. among q (in_right q (head_keys h ++ known_keys ins d) (known_keys row d) x)) known in
      let inside = row_known his (members_of spans row ts ms) (ins_apart h ins row apart) (agrees_inner h l ins row is ts ms apart same) (fresh_inner h ins row ts ms apart fresh) ks (λ q x. among q (in_left q (head_keys h ++ known_keys ins d) (known_keys row d) (in_right q (head_keys h) (known_keys ins d) x))) rest in
      head_known h l ks (members_of spans ins is (members_of spans row ts ms)) head (λ q x. among q (in_left q (head_keys h ++ known_keys ins d) (known_keys row d) (in_left q (head_keys h) (known_keys ins d) x))) inside
  row_known (nowhere {k = k} {words = words} {ins = ins} {row = row} {ts = ts} hs) ms apart same fresh ks among known =
      let v = missing_where k ins row ts ms apart same fresh in
      row_known hs ms (row_apart (chosen k words) ins row apart) (λ x i. same x (in_right x (k ∷ []) (keys ins ++ keys row) (in_right x (keys ins) (keys row) i))) (fresh_outer (chosen k words) ins row ms fresh) ks
      (λ q x. among q (in_right q (if is_some (get_member k M) then (k ∷ []) ++ known_keys ins (object M) else []) (known_keys row (object M)) x)) known
  row_known (somewhere {l = l} {k = k} {words = words} {ins = ins} {row = row} {is = is} {ts = ts} head fine his hs) ms apart same fresh ks among known =
      let d = object M in
      let h = chosen k words in
      let inner_members = members_of spans ins is (members_of spans row ts ms) in
      let v : get_member k M ≡ Some (text_or_null (word_of words l)) = same k (here k (keys ins ++ keys row)) ∙ get_member-put k (text_or_null (word_of words l)) inner_members in
      let among_all : AreAmong (((k ∷ []) ++ known_keys ins d) ++ known_keys row d) ks = subst (λ b. AreAmong ((if b then (k ∷ []) ++ known_keys ins d else []) ++ known_keys row d) ks) (ap (λ o. is_some o) v) among in
      let rest = row_known hs ms (row_apart h ins row apart) (agrees_outer h l ins row is ts ms apart same) (fresh_outer h ins row ms fresh) ks (λ q x. among_all q (in_right q ((k ∷ []) ++ known_keys ins d) (known_keys row d) x)) known in
      let inside = row_known his (members_of spans row ts ms) (ins_apart h ins row apart) (agrees_inner h l ins row is ts ms apart same) (fresh_inner h ins row ts ms apart fresh) ks (λ q x. among_all q (in_left q ((k ∷ []) ++ known_keys ins d) (known_keys row d) (in_right q (k ∷ []) (known_keys ins d) x))) rest in
      head_known h l ks inner_members head (λ q x. among_all q (in_left q ((k ∷ []) ++ known_keys ins d) (known_keys row d) (in_left q (k ∷ []) (known_keys ins d) x))) inside

abbrev AreKeysAmong : List Text → List Text → Type 0
AreKeysAmong some ks = (q : Text) → is_in q some ≡ true → is_in q ks ≡ true

-- ---- words

abbrev word_keys : Option Text → List Text
word_keys None = []
word_keys (Some w) = word_key ∷ []

known_word : (ks : List Text) (w : Option Text) (ms : Members) → AreKeysAmong (word_keys w) ks → all_known ks ms ≡ true → all_known ks (put_word w ms) ≡ true
known_word ks None ms among known = known
known_word ks (Some w) ms among known = known_put ks word_key (string w) ms (among word_key (here word_key [])) known

word_out : (q : Text) (w : Option Text) (ms : Members) → bytes_eq word_key q ≡ false → get_member q (put_word w ms) ≡ get_member q ms
word_out q None ms out = refl
word_out q (Some w) ms out = get_member-put_other q word_key (string w) ms (apart_keys word_key q out)

word_there : (w : Option Text) (ms : Members) → get_member word_key ms ≡ None → get_member word_key (put_word w ms) ≡ option_map string w
word_there None ms none = none
word_there (Some w) ms none = get_member-put word_key (string w) ms

-- its word is no child of a node
children_word : (read : Form → Data → Option Spelled) (w : Option Text) (row : Row) (M : Members) → get_member word_key M ≡ option_map string w → children_in read (with_word w row) (object M) ≡ children_in read row (object M)
children_word read None row M there = refl
children_word read (Some w) row M there = rw (there, same_text w) refl

word_among : (w : Option Text) (row : Row) (d : Data) (q : Text) → is_in q (word_keys w) ≡ true → is_in q (known_keys (with_word w row) d) ≡ true
word_among None row d q x = absurd (let y : ⊥ = cc in y)
word_among (Some w) row d q x = in_left q (word_key ∷ []) (known_keys row d) x

row_among : (w : Option Text) (row : Row) (d : Data) (q : Text) → is_in q (known_keys row d) ≡ true → is_in q (known_keys (with_word w row) d) ≡ true
row_among None row d q x = x
row_among (Some w) row d q x = later q word_key (known_keys row d) x

-- ---- the form of a unit

abbrev form_key : Text
form_key = codes "form"

form_out : (q : Text) (spans : Bool) (ms : Members) → bytes_eq form_key q ≡ false → get_member q (put_extra spans second_form ms) ≡ get_member q ms
form_out q true ms out = get_member-put_other q form_key (number (unsigned 2)) ms (apart_keys form_key q out)
form_out q false ms out = refl

form_known : (ks : List Text) (spans : Bool) (ms : Members) → AreKeysAmong (extra_keys spans second_form) ks → all_known ks ms ≡ true → all_known ks (put_extra spans second_form ms) ≡ true
form_known ks true ms among known = known_put ks form_key (number (unsigned 2)) ms (among form_key (here form_key [])) known
form_known ks false ms among known = known

form_beside : (spans : Bool) (ms : Members) → (if spans then has_extra second_form (get_member form_key (put_extra spans second_form ms)) else true) ≡ true
form_beside true ms = rw (get_member-put form_key (number (unsigned 2)) ms) refl
form_beside false ms = refl

-- ---- nodes

node_of_parts : (known : Bool) (l : SpelledLabel) (ts : SpelledForest) (o : Option SpelledForest) (b : Bool) → known ≡ true → o ≡ guard b ts
    → (if known then option_and_then (λ x. Some (record { label = l; children = x })) o else None) ≡ guard b (tree_of l ts)
node_of_parts known l ts o true e h = rw (e, h) refl
node_of_parts known l ts o false e h = rw (e, h) refl

fine_node : (p l : SpelledLabel) (ts : SpelledForest) → is_readable p l ≡ true → guard (are_readable l ts) (tree_of l ts) ≡ guard (is_readable p l && (are_readable l ts && true)) (tree_of l ts)
fine_node p l ts h = rw h (at_test (are_readable l ts))
  where
    at_test : (b : Bool) → guard b (tree_of l ts) ≡ guard (b && true) (tree_of l ts)
    at_test true = refl
    at_test false = refl

-- a node with a span
join_placed : (known : Bool) (l : SpelledLabel) (ts : SpelledForest) (la : Option SpelledLabel) (e r c : Bool) (o : Option SpelledForest) → known ≡ true → la ≡ guard r l → e ≡ r → o ≡ guard c ts
    → (if known then option_and_then (λ x. option_and_then (λ y. Some (tree_of x y)) (if e then o else None)) la else None) ≡ guard (r && (c && true)) (tree_of l ts)
join_placed known l ts la e true true o a b f g = rw (a, b, f, g) refl
join_placed known l ts la e true false o a b f g = rw (a, b, f, g) refl
join_placed known l ts la e false c o a b f g = rw (a, b) refl

-- a node that holds it
join_held : (l : SpelledLabel) (ts : SpelledForest) (la : Option SpelledLabel) (r c : Bool) (o : Option SpelledForest) → la ≡ guard r l → o ≡ guard c ts
    → option_and_then (λ x. option_and_then (λ y. option_and_then (λ z. Some (tree x y z)) (Some end)) o) la ≡ guard (r && c) (tree l ts end)
join_held l ts la true true o a b = rw (a, b) refl
join_held l ts la true false o a b = rw (a, b) refl
join_held l ts la false c o a b = rw a refl

join_holding : (known : Bool) (l : SpelledLabel) (ts : SpelledForest) (e r c : Bool) (o : Option SpelledForest) → known ≡ true → e ≡ r → o ≡ guard (r && c) ts
    → (if known then option_and_then (λ y. Some (tree_of l y)) (if e then o else None) else None) ≡ guard ((r && (c && true)) && true) (tree_of l ts)
join_holding known l ts e true true o a f g = rw (a, f, g) refl
join_holding known l ts e true false o a f g = rw (a, f, g) refl
join_holding known l ts e false c o a f g = rw (a, f) refl

fine_leaf : (p l : SpelledLabel) → guard (is_readable p l) (leaf_of l) ≡ guard (is_readable p l && true) (leaf_of l)
fine_leaf p l = at_test (is_readable p l)
  where
    at_test : (b : Bool) → guard b (leaf_of l) ≡ guard (b && true) (leaf_of l)
    at_test true = refl
    at_test false = refl

fine_list : (k : Kind) (ts : SpelledForest) (b : Bool) → guard b (tree_of (kind k) ts) ≡ guard (b && true) (tree_of (kind k) ts)
fine_list k ts true = refl
fine_list k ts false = refl

-- a unit
join_unit : (known : Bool) (l : SpelledLabel) (ts : SpelledForest) (e c : Bool) (o : Option SpelledForest) → known ≡ true → e ≡ true → o ≡ guard c ts
    → (if known then option_and_then (λ y. Some (tree_of l y)) (if e then o else None) else None) ≡ guard (c && true) (tree_of l ts)
join_unit known l ts e true o a f g = rw (a, f, g) refl
join_unit known l ts e false o a f g = rw (a, f, g) refl

-- what a node is written as, by its short form and the node that fits it
abbrev by_options : Option Data → Option Node → SpelledLabel → Writes → Data
by_options o f l inside = elim o as (λ _. Data) [ Some d ↦ d | None ↦ object_value f l inside ]

as_long : (o : Option Data) (f : Option Node) (n : Node) (l : SpelledLabel) (inside : Writes) → o ≡ None → f ≡ Some n → by_options o f l inside ≡ object (put_head n.head l (marks n.row (inside.row (unmarked n.row) no_members)))
as_long o f n l inside e h = rw (e, h) refl

as_short : (o : Option Data) (f : Option Node) (d : Data) (l : SpelledLabel) (inside : Writes) → o ≡ Some d → by_options o f l inside ≡ d
as_short o f d l inside e = rw e refl

module _ (spans : Bool) where
  abbrev BackAt : ℕ → Type 0
  BackAt n = (p : SpelledLabel) (f : Form) (t : Spelled) → Fits spans p f t → HaveTexts (before t end) → depth (written spans f t) < n → reading (whole_form spans) n f (written spans f t) ≡ guard (are_readable p (before t end)) t

  -- the items of a list
  items_back : (p : SpelledLabel) (m : Name) (n : ℕ) (ts : SpelledForest) → AreFits spans p m ts → HaveTexts ts → items_depth ((written_forest spans ts).items m) < suc n → BackAt (suc n)
      → items_in (reading (whole_form spans) (suc n) (node m)) ((written_forest spans ts).items m) ≡ guard (are_readable p ts) ts
  items_back p m n ts no_more ok low back = refl
  items_back p m n ts (one_more {t = t} {ts = us} h hs) ok low back =
      let q = parts t.label t.children us ok in
      let first = back p (node m) t h q.alone (omega arith) in
      let rest = items_back p m n us hs q.after (omega arith) back in
      rw (first, rest) (join_trees p t us)

  -- an object that is read by its node
  object_back : (n : ℕ) (p l : SpelledLabel) (m : Name) (row : Row) (ts : SpelledForest) (M : Members) → nodes_of spans m (object M) ≡ Some (node_with l row) → all_known (known_keys row (object M)) M ≡ true
      → children_in (reading (whole_form spans) n) row (object M) ≡ guard (are_readable l ts) ts → is_readable p l ≡ true → reading (whole_form spans) (suc n) (node m) (object M) ≡ guard (is_readable p l && (are_readable l ts && true)) (tree_of l ts)
  object_back n p l m row ts M picked known read fine =
      rw picked (node_of_parts (all_known (known_keys row (object M)) M) l ts (children_in (reading (whole_form spans) n) row (object M)) (are_readable l ts) known read ∙ fine_node p l ts fine)

  plain_back : (n : ℕ) → BackAt n → (p l : SpelledLabel) (m : Name) (ts : SpelledForest) (row : Row) → nodes_of spans m (object (members_of spans row ts no_members)) ≡ Some (node_with l row) → distinct (keys row) ≡ true → is_readable p l ≡ true → FitsRow spans l row ts
      → HaveTexts ts → depth (object (members_of spans row ts no_members)) < suc n → reading (whole_form spans) (suc n) (node m) (object (members_of spans row ts no_members)) ≡ guard (is_readable p l && (are_readable l ts && true)) (tree_of l ts)
  plain_back n back p l m ts row picked apart fine hs ok low =
      let M = members_of spans row ts no_members in
      let small : members_depth M < n = omega arith in
      let read = row_back spans n back M small hs no_members apart (λ q x. refl) (λ q x. refl) ok in
      let known = row_known spans n back M small hs no_members apart (λ q x. refl) (λ q x. refl) (known_keys row (object M)) (λ q x. x) refl in
      object_back n p l m row ts M picked known read fine

  worded_back : (n : ℕ) → BackAt n → (p l : SpelledLabel) (m : Name) (ts : SpelledForest) (w : Text) (row : Row) → IsReadBy spans m (Some w) (node_with l (marked word_key w row)) → distinct (word_key ∷ keys row) ≡ true → is_readable p l ≡ true
      → FitsRow spans l row ts → HaveTexts ts → depth (object (put word_key (string w) (members_of spans row ts no_members))) < suc n
      → reading (whole_form spans) (suc n) (node m) (object (put word_key (string w) (members_of spans row ts no_members))) ≡ guard (is_readable p l && (are_readable l ts && true)) (tree_of l ts)
  worded_back n back p l m ts w row picked apart fine hs ok low =
      let M = put word_key (string w) (members_of spans row ts no_members) in
      let small : members_depth M < n = omega arith in
      let same = agrees_after spans n back M small word_key (string w) row ts no_members apart (λ q x. refl) in
      let read = row_back spans n back M small hs no_members (others_apart word_key (keys row) apart) same (λ q x. refl) ok in
      let ks = known_keys (marked word_key w row) (object M) in
      let rest = row_known spans n back M small hs no_members (others_apart word_key (keys row) apart) same (λ q x. refl) ks (λ q x. later q word_key (known_keys row (object M)) x) refl in
      let known = known_put ks word_key (string w) (members_of spans row ts no_members) (here word_key (known_keys row (object M))) rest in
      let word = get_member-put word_key (string w) (members_of spans row ts no_members) in
      let whole = children_word (reading (whole_form spans) n) (Some w) row M word ∙ read in
      object_back n p l m (marked word_key w row) ts M (picked M word) known whole fine

  -- members of a row's trees in an object, with a word and a span
  record Places (k : Kind) (o : ℕ × ℕ) (w : Option Text) (row : Row) (ts : SpelledForest) (M : Members) : Type 0 where
    -- the span stands beside these
    pub others : Members
    pub spot : get_member span_key M ≡ get_member span_key (put_span spans (label_shown spans k o) others)
    pub bare : get_member span_key others ≡ None
    pub word : get_member word_key M ≡ option_map string w
    pub agrees : (q : Text) → is_in q (keys row) ≡ true → get_member q M ≡ get_member q (members_of spans row ts no_members)
    pub known : (ks : List Text) → AreKeysAmong (extra_keys spans a_span) ks → AreKeysAmong (word_keys w) ks → all_known ks (members_of spans row ts no_members) ≡ true → all_known ks M ≡ true

  abbrev no_word : (row : Row) (ts : SpelledForest) → distinct (placed_keys row) ≡ true → get_member word_key (members_of spans row ts no_members) ≡ None
  no_word row ts apart = out_of spans word_key row ts no_members (first_apart word_key (keys row) (others_apart span_key (word_key ∷ keys row) apart))

  abbrev no_span : (row : Row) (ts : SpelledForest) → distinct (placed_keys row) ≡ true → get_member span_key (members_of spans row ts no_members) ≡ None
  no_span row ts apart = out_of spans span_key row ts no_members (out_right span_key (word_key ∷ []) (keys row) (first_apart span_key (word_key ∷ keys row) apart))

  not_word : (row : Row) → distinct (placed_keys row) ≡ true → (q : Text) → is_in q (keys row) ≡ true → bytes_eq word_key q ≡ false
  not_word row apart q x = differ q word_key (keys row) (first_apart word_key (keys row) (others_apart span_key (word_key ∷ keys row) apart)) x

  not_span : (row : Row) → distinct (placed_keys row) ≡ true → (q : Text) → is_in q (keys row) ≡ true → bytes_eq span_key q ≡ false
  not_span row apart q x = differ q span_key (word_key ∷ keys row) (first_apart span_key (word_key ∷ keys row) apart) (later q word_key (keys row) x)

  places_at : (k : Kind) (o : ℕ × ℕ) (w : Option Text) (row : Row) (ts : SpelledForest) → distinct (placed_keys row) ≡ true → Places k o w row ts (put_span spans (label_shown spans k o) (put_word w (members_of spans row ts no_members)))
  places_at k o w row ts apart =
      let l = label_shown spans k o in
      let R = members_of spans row ts no_members in
      record {
        others = put_word w R;
        spot = refl;
        bare = word_out span_key w R refl ∙ no_span row ts apart;
        word = span_out word_key spans l (put_word w R) refl ∙ word_there w R (no_word row ts apart);
        agrees = λ q x. span_out q spans l (put_word w R) (not_span row apart q x) ∙ word_out q w R (not_word row apart q x);
        known = λ ks span word rest. known_span ks spans k o (put_word w R) span (known_word ks w R word rest);
      }

  places_around : (k : Kind) (o : ℕ × ℕ) (w : Option Text) (row : Row) (ts : SpelledForest) → distinct (placed_keys row) ≡ true → Places k o w row ts (put_word w (put_span spans (label_shown spans k o) (members_of spans row ts no_members)))
  places_around k o w row ts apart =
      let l = label_shown spans k o in
      let R = members_of spans row ts no_members in
      record {
        others = R;
        spot = word_out span_key w (put_span spans l R) refl;
        bare = no_span row ts apart;
        word = word_there w (put_span spans l R) (span_out word_key spans l R refl ∙ no_word row ts apart);
        agrees = λ q x. word_out q w (put_span spans l R) (not_word row apart q x) ∙ span_out q spans l R (not_span row apart q x);
        known = λ ks span word rest. known_word ks w (put_span spans l R) word (known_span ks spans k o R span rest);
      }

  -- all members of such an object are known
  placed_known : (n : ℕ) → BackAt n → (l : SpelledLabel) (k : Kind) (o : ℕ × ℕ) (w : Option Text) (row : Row) (ts : SpelledForest) (M : Members) → Places k o w row ts M → distinct (placed_keys row) ≡ true → FitsRow spans l row ts → members_depth M < n
      → (ks : List Text) → AreKeysAmong (extra_keys spans a_span) ks → AreKeysAmong (word_keys w) ks → AreKeysAmong (known_keys row (object M)) ks → all_known ks M ≡ true
  placed_known n back l k o w row ts M places apart hs small ks span word among =
      let alone = others_apart word_key (keys row) (others_apart span_key (word_key ∷ keys row) apart) in
      places.known ks span word (row_known spans n back M small hs no_members alone places.agrees (λ q x. refl) ks among refl)

  placed_row : (n : ℕ) → BackAt n → (l : SpelledLabel) (k : Kind) (o : ℕ × ℕ) (w : Option Text) (row : Row) (ts : SpelledForest) (M : Members) → Places k o w row ts M → distinct (placed_keys row) ≡ true → FitsRow spans l row ts → HaveTexts ts → members_depth M < n
      → children_in (reading (whole_form spans) n) row (object M) ≡ guard (are_readable l ts) ts
  placed_row n back l k o w row ts M places apart hs ok small =
      let alone = others_apart word_key (keys row) (others_apart span_key (word_key ∷ keys row) apart) in
      row_back spans n back M small hs no_members alone places.agrees (λ q x. refl) ok

  -- a node with a span
  placed_back : (n : ℕ) → BackAt n → (p : SpelledLabel) (m : Name) (k : Kind) (o : ℕ × ℕ) (w : Option Text) (row : Row) (ts : SpelledForest) (M : Members) → Places k o w row ts M → IsReadBy spans m w (placed_node spans k w row) → distinct (placed_keys row) ≡ true
      → FitsRow spans (label_shown spans k o) row ts → HaveTexts ts → depth (object M) < suc n
      → reading (whole_form spans) (suc n) (node m) (object M) ≡ guard (is_readable p (label_shown spans k o) && (are_readable (label_shown spans k o) ts && true)) (tree_of (label_shown spans k o) ts)
  placed_back n back p m k o w row ts M places picked apart hs ok low =
      let l = label_shown spans k o in
      let d = object M in
      let small : members_depth M < n = omega arith in
      let read = reading (whole_form spans) n in
      let ks = known_keys (beside spans a_span (with_word w row)) d in
      let span : AreKeysAmong (extra_keys spans a_span) ks = λ q x. in_left q (extra_keys spans a_span) (known_keys (with_word w row) d) x in
      let after : AreKeysAmong (known_keys (with_word w row) d) ks = λ q x. in_right q (extra_keys spans a_span) (known_keys (with_word w row) d) x in
      let known = placed_known n back l k o w row ts M places apart hs small ks span (λ q x. after q (word_among w row d q x)) (λ q x. after q (row_among w row d q x)) in
      let children = children_word read w row M places.word ∙ placed_row n back l k o w row ts M places apart hs ok small in
      let label = placed_label_back spans k o M places.others places.spot places.bare in
      let there = span_beside spans k o M places.others places.spot places.bare in
      rw (picked M places.word) (join_placed (all_known ks M) l ts (label_in (placed spans k) d) (has_span_beside spans M) (is_readable (kind k) l) (are_readable l ts) (children_in read (with_word w row) d) known label there children)

  -- and one that holds it in the same object
  holding_back : (n : ℕ) → BackAt n → (p : SpelledLabel) (m : Name) (outer k : Kind) (o : ℕ × ℕ) (w : Option Text) (row : Row) (ts : SpelledForest) (M : Members) → Places k o w row ts M → IsReadBy spans m w (holding_node spans outer k w row) → distinct (placed_keys row) ≡ true
      → FitsRow spans (label_shown spans k o) row ts → HaveTexts ts → depth (object M) < suc n
      → reading (whole_form spans) (suc n) (node m) (object M) ≡ guard (is_readable p (kind outer) && (are_readable (kind outer) (tree (label_shown spans k o) ts end) && true)) (tree_of (kind outer) (tree (label_shown spans k o) ts end))
  holding_back n back p m outer k o w row ts M places picked apart hs ok low =
      let l = label_shown spans k o in
      let d = object M in
      let small : members_depth M < n = omega arith in
      let read = reading (whole_form spans) n in
      let inside : Row = inner (placed spans k) row nothing in
      let ks = known_keys (beside spans a_span (with_word w inside)) d in
      let span : AreKeysAmong (extra_keys spans a_span) ks = λ q x. in_left q (extra_keys spans a_span) (known_keys (with_word w inside) d) x in
      let after : AreKeysAmong (known_keys (with_word w inside) d) ks = λ q x. in_right q (extra_keys spans a_span) (known_keys (with_word w inside) d) x in
      let known = placed_known n back l k o w row ts M places apart hs small ks span (λ q x. after q (word_among w inside d q x)) (λ q x. after q (row_among w inside d q (in_left q (known_keys row d) [] x))) in
      let label = placed_label_back spans k o M places.others places.spot places.bare in
      let there = span_beside spans k o M places.others places.spot places.bare in
      let held = join_held l ts (label_in (placed spans k) d) (is_readable (kind k) l) (are_readable l ts) (children_in read row d) label (placed_row n back l k o w row ts M places apart hs ok small) in
      let children = children_word read w inside M places.word ∙ held in
      rw (picked M places.word) (join_holding (all_known ks M) (kind outer) (tree l ts end) (has_span_beside spans M) (is_readable (kind k) l) (are_readable l ts) (children_in read (with_word w inside) d) known there children)

  -- a whole unit, which may say its form
  unit_back : (n : ℕ) → BackAt n → (p : SpelledLabel) (m : Name) (k : Kind) (row : Row) (ts : SpelledForest) → ((ms : Members) → nodes_of spans m (object ms) ≡ Some (record { head = fixed (kind k); row = beside spans second_form row })) → distinct (form_key ∷ keys row) ≡ true
      → FitsRow spans (kind k) row ts → HaveTexts ts → depth (object (put_extra spans second_form (members_of spans row ts no_members))) < suc n
      → reading (whole_form spans) (suc n) (node m) (object (put_extra spans second_form (members_of spans row ts no_members))) ≡ guard (is_readable p (kind k) && (are_readable (kind k) ts && true)) (tree_of (kind k) ts)
  unit_back n back p m k row ts picked apart hs ok low =
      let R = members_of spans row ts no_members in
      let M = put_extra spans second_form R in
      let d = object M in
      let small : members_depth M < n = omega arith in
      let alone = others_apart form_key (keys row) apart in
      let same : (q : Text) → is_in q (keys row) ≡ true → get_member q M ≡ get_member q R = λ q x. form_out q spans R (differ q form_key (keys row) (first_apart form_key (keys row) apart) x) in
      let ks = known_keys (beside spans second_form row) d in
      let rest = row_known spans n back M small hs no_members alone same (λ q x. refl) ks (λ q x. in_right q (extra_keys spans second_form) (known_keys row d) x) refl in
      let known = form_known ks spans R (λ q x. in_left q (extra_keys spans second_form) (known_keys row d) x) rest in
      let read = row_back spans n back M small hs no_members alone same (λ q x. refl) ok in
      rw (picked M) (join_unit (all_known ks M) (kind k) ts (if spans then has_extra second_form (get_member form_key M) else true) (are_readable (kind k) ts) (children_in (reading (whole_form spans) n) row d) known (form_beside spans R) read)

  -- ---- what nodes are written as

  plain_members : (row : Row) (ts : SpelledForest) → IsPlainRow row → marks row ((written_forest spans ts).row (unmarked row) no_members) ≡ members_of spans row ts no_members
  plain_members row ts plain = rw plain.same_row (plain.no_mark (members_of spans row ts no_members))

  word_members : (w : Option Text) (row : Row) (ts : SpelledForest) → IsPlainRow row → marks (with_word w row) ((written_forest spans ts).row (unmarked (with_word w row)) no_members) ≡ put_word w (members_of spans row ts no_members)
  word_members None row ts plain = plain_members row ts plain
  word_members (Some w) row ts plain = ap (put word_key (string w)) (plain_members row ts plain)

  held_members : (k : Kind) (o : ℕ × ℕ) (w : Option Text) (row : Row) (ts : SpelledForest)
      → marks (with_word w (inner (placed spans k) row nothing)) ((written_forest spans (tree (label_shown spans k o) ts end)).row (unmarked (with_word w (inner (placed spans k) row nothing))) no_members) ≡ put_word w (put_span spans (label_shown spans k o) (members_of spans row ts no_members))
  held_members k o None row ts = refl
  held_members k o (Some w) row ts = refl

  long_value : (m : Name) (n : Node) (ks : List Text) (l : SpelledLabel) (ts : SpelledForest) → IsPicked spans m n ks l ts → written spans (node m) (tree_of l ts) ≡ object (put_head n.head l (marks n.row ((written_forest spans ts).row (unmarked n.row) no_members)))
  long_value m n ks l ts picked = as_long (short_value spans m l ts) (first_fit (candidates spans m) l ts) n l (written_forest spans ts) picked.long picked.fits

  read_short : (n : ℕ) (m : Name) (d : Data) (o : Option Spelled) → as_object d ≡ None → shorts_of m d ≡ o → reading (whole_form spans) (suc n) (node m) d ≡ o
  read_short n m d o bare read = rw bare read

  pub back : (n : ℕ) → BackAt n
  back zero p f t h ok low = absurd (omega arith)
  back (suc n) p f t (a_leaf {l = l} {f = lf} h) ok low = ap (λ o. option_map leaf_of o) (leaf_back h ok) ∙ (map_guard leaf_of (is_readable p l) l ∙ fine_leaf p l)
  back (suc zero) p f t (a_list hs) ok low = absurd (omega arith)
  back (suc (suc n)) p f t (a_list {k = k} {m = m} {ts = ts} hs) ok low =
      let q = parts (kind k) ts end ok in
      let items = items_back (kind k) m n ts hs q.below (omega arith) (back (suc n)) in
      rw items (map_guard (λ us. tree_of (kind k) us) (are_readable (kind k) ts) ts ∙ fine_list k ts (are_readable (kind k) ts))
  back (suc n) p f t (plain_node {l = l} {m = m} {ts = ts} row picked plain nodes fine hs) ok low =
      let same = long_value m (node_with l row) (keys row) l ts picked ∙ ap object (plain_members row ts plain) in
      let q = parts l ts end ok in
      rw same (plain_back n (back n) p l m ts row nodes picked.apart fine hs q.below (subst (λ d. depth d < suc n) same low))
  back (suc n) p f t (recast_node {l = l} {m = m} {ts = ts} row other long fits shown apart nodes fine hs) ok low =
      let same = as_long (short_value spans m l ts) (first_fit (candidates spans m) l ts) (node_with l other) l (written_forest spans ts) long fits ∙ ap object shown in
      let q = parts l ts end ok in
      rw same (plain_back n (back n) p l m ts row nodes apart fine hs q.below (subst (λ d. depth d < suc n) same low))
  back (suc n) p f t (worded_node {l = l} {m = m} {ts = ts} w row picked plain nodes fine hs) ok low =
      let same = long_value m (node_with l (marked word_key w row)) (word_key ∷ keys row) l ts picked ∙ ap object (word_members (Some w) row ts plain) in
      let q = parts l ts end ok in
      rw same (worded_back n (back n) p l m ts w row nodes picked.apart fine hs q.below (subst (λ d. depth d < suc n) same low))
  back (suc n) p f t (node_at {m = m} {ts = ts} k o w row picked plain nodes hs) ok low =
      let l = label_shown spans k o in
      let same = long_value m (placed_node spans k w row) (placed_keys row) l ts picked ∙ ap (λ x. object (put_span spans l x)) (word_members w row ts plain) in
      let q = parts l ts end ok in
      rw same (placed_back n (back n) p m k o w row ts _ (places_at k o w row ts picked.apart) nodes picked.apart hs q.below (subst (λ d. depth d < suc n) same low))
  back (suc n) p f t (node_around {m = m} {ts = ts} outer k o w row picked nodes hs) ok low =
      let l = label_shown spans k o in
      let same = long_value m (holding_node spans outer k w row) (placed_keys row) (kind outer) (tree l ts end) picked ∙ ap object (held_members k o w row ts) in
      let q = parts (kind outer) (tree l ts end) end ok in
      let r = parts l ts end q.below in
      rw same (holding_back n (back n) p m outer k o w row ts _ (places_around k o w row ts picked.apart) nodes picked.apart hs r.below (subst (λ d. depth d < suc n) same low))
  back (suc n) p f t (unit_node {m = m} {ts = ts} k row picked plain nodes hs) ok low =
      let n_ : Node = record { head = fixed (kind k); row = beside spans second_form row } in
      let same = long_value m n_ (form_key ∷ keys row) (kind k) ts picked ∙ ap (λ x. object (put_extra spans second_form x)) (plain_members row ts plain) in
      let q = parts (kind k) ts end ok in
      rw same (unit_back n (back n) p m k row ts nodes picked.apart hs q.below (subst (λ d. depth d < suc n) same low))
  back (suc n) p f t (short_node {l = l} {m = m} {ts = ts} d short bare read) ok low = rw (as_short (short_value spans m l ts) (first_fit (candidates spans m) l ts) d l (written_forest spans ts) short) (read_short n m d _ bare read)
