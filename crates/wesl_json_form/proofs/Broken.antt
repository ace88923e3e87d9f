-- A value that breaks its form somewhere has no reading.
use Rattle.std.proofs.Common.{◌≡◌, ◌⊎◌, inl, inr, ℕ, zero, suc, List, [], ◌∷◌, ◌++◌, Option, Some, None, Bool, true, false, not, ◌&&◌, ◌||◌, if◌then◌else◌, option_map, option_and_then, refl, sym, ap, subst, ◌∙◌}
use Rattle.std.specs.Option.{is_some}
use Rattle.std.specs.Ordering.{nat_cmp, match_ordering}
use Rattle.std.specs.Cmp.Lexicographic.{slice_cmp}
use Rattle.std.proofs.Common.{Ordering, Less, Equal, Greater, is_eq}
use Rattle.std.specs.Str.{bytes_eq}
use Rattle.std.specs.List.{list_any}
use Rattle.std.proofs.lemmas.Slice.Eq.{bytes_eq-Decides}
use Rattle.std.proofs.lemmas.Map.Text.{is_eq-slice_cmp}
use Rattle.serde_json.specs.Data.{Data, null, boolean, number, string, array, object, unsigned, negative, float, Items, no_items, item, Members, no_members, member}
use Rattle.serde_json.specs.Find.{get, at, get_item, get_member, as_object, is_float}
use Rattle.serde_json.specs.Written.{has_float, items_have_float, members_have_float}
use Rattle.wesl_tree_names.specs.Path.{Text}
use Rattle.wesl_tree_syntax.specs.Tree.{kind, list, texts, text, present, tree, before}
use Rattle.wesl_json_form.specs.Schema.{Spelled, SpelledForest, SpelledLabel, leaf_of, Form, leaf, list_of, node, Leaf, an_ident, a_name, a_text, a_literal, some_names, a_path, one_of, anything, Name, Node, Row, nothing, marked, needs, may, many, given, inner, inner_where, Head, fixed, chosen, placed, beside, Extra, a_span, second_form, extra, Table}
use Rattle.wesl_json_form.specs.Schema.{a_type, an_expression, a_template_argument, a_case, an_attribute}
use Rattle.wesl_json_form.specs.Nodes.{shorts_of, whole_form}
use Rattle.wesl_json_form.specs.Reading.{reading, leaf_label, any_leaf, name_in, texts_in, children_in, items_in, head_keys, known_keys, label_in, needed, optional, or_empty, empty_of, where_there, present_tree, word_in, is_extra, has_extra, extra_key, span_of_items, whole_number, ordered}
use Rattle.wesl_json_form.specs.Keys.{all_known, has_only}
use Rattle.wesl_json_form.specs.Place.{Field, field, fields, head_fields, find_field, member_form, item_form, IsWrongLeaf, IsWrongNode, IsWrongValue, IsWrongObject, IsWrong, HasUnknownWord, BreaksAt, is_needed}
use Rattle.wesl_json_form.specs.Pointer.{Part, key, index}
use Rattle.wesl_json_form.specs.Laws.{BrokenIsRefused, WholeFormRefuses}
use mathlib.Core.Bool.{and-false, or-true}

abbrev Holds : Field → List Field → Type 0
Holds f [] = ⊥
Holds f (g ∷ fs) = (g ≡ f) ⊎ Holds f fs

holds_append : (f : Field) (xs ys : List Field) → Holds f (xs ++ ys) → Holds f xs ⊎ Holds f ys
holds_append f [] ys h = inr h
holds_append f (x ∷ xs) ys (inl same) = inl (inl same)
holds_append f (x ∷ xs) ys (inr h) = elim (holds_append f xs ys h) [ inl k ↦ inl (inr k) | inr k ↦ inr k ]

abbrev IsFalse : Bool → Type 0
IsFalse false = Unit {0}
IsFalse true = ⊥

abbrev IsNone : {A : Type 0} → Option A → Type 0
IsNone None = Unit {0}
IsNone (Some x) = ⊥

no_truth : false ≡ true → ⊥
no_truth h = subst IsFalse h tt

abbrev value_or : {A : Type 0} → A → Option A → A
value_or x None = x
value_or x (Some y) = y

some_same : {A : Type 0} {x y : A} → Some x ≡ Some y → x ≡ y
some_same {x} h = ap (value_or x) h

no_value : {A : Type 0} (x : A) → Some x ≡ None → ⊥
no_value x h = subst IsNone (sym h) tt

-- a step that gives nothing, whatever came before it
abbrev nothing_after : {A B C : Type 0} → Option A → Option B → (A → B → C) → Option C
nothing_after a b f = option_and_then (λ x. option_and_then (λ y. Some (f x y)) b) a

first_none : {A B C : Type 0} (a : Option A) (b : Option B) (f : A → B → C) → a ≡ None → nothing_after a b f ≡ None
first_none a b f h = rw h refl

second_none : {A B C : Type 0} (a : Option A) (b : Option B) (f : A → B → C) → b ≡ None → nothing_after a b f ≡ None
second_none None b f h = refl
second_none (Some x) b f h = rw h refl

map_none : {A B : Type 0} (f : A → B) (o : Option A) → option_map f o ≡ None → o ≡ None
map_none f None h = refl
map_none f (Some x) h = absurd (no_value (f x) h)

-- found under its own name
found_here : (k : Text) (g f : Field) (fs : List Field) (b : Bool) → bytes_eq k g.named ≡ b → (find_field k fs ≡ Some f → Holds f fs × (bytes_eq k f.named ≡ true)) → (if b then Some g else find_field k fs) ≡ Some f → Holds f (g ∷ fs) × (bytes_eq k f.named ≡ true)
found_here k g f fs true is later this = (inl (some_same this), subst (λ x. bytes_eq k x.named ≡ true) (some_same this) is)
found_here k g f fs false is later this = (inr (later this).0, (later this).1)

find_holds : (k : Text) (fs : List Field) (f : Field) → find_field k fs ≡ Some f → Holds f fs × (bytes_eq k f.named ≡ true)
find_holds k [] f h = absurd (no_value f (sym h))
find_holds k (g ∷ fs) f h = found_here k g f fs (bytes_eq k g.named) refl (find_holds k fs f) h

same_name : (k : Text) (fs : List Field) (f : Field) → find_field k fs ≡ Some f → k ≡ f.named
same_name k fs f h = (bytes_eq-Decides k f.named).0 (find_holds k fs f h).1

is_required_of : (o : Option Field) → option_map (λ x. x.is_required) o ≡ Some true → (f : Field) × (o ≡ Some f) × (f.is_required ≡ true)
is_required_of None h = absurd (no_value true (sym h))
is_required_of (Some f) h = (f, refl, some_same h)

mark_then : (a : Option SpelledLabel) (b : Option SpelledForest) → b ≡ None → option_and_then (λ l. b) a ≡ None
mark_then None b h = refl
mark_then (Some l) b h = h

three_none : (l : Option SpelledLabel) (a b : Option SpelledForest) → (a ≡ None) ⊎ (b ≡ None) → option_and_then (λ x. option_and_then (λ y. option_and_then (λ z. Some (tree x y z)) b) a) l ≡ None
three_none None a b h = refl
three_none (Some x) a b (inl h) = rw h refl
three_none (Some x) None b (inr h) = refl
three_none (Some x) (Some y) b (inr h) = rw h refl

abbrev node_tree : SpelledLabel → SpelledForest → Spelled
node_tree l ts = record { label = l; children = ts }

in_node : (known : Bool) (l : Option SpelledLabel) (a : Option SpelledForest) → a ≡ None → (if known then nothing_after l a node_tree else None) ≡ None
in_node false l a h = refl
in_node true l a h = second_none l a node_tree h

not-any : (b : Bool) → option_map leaf_of (any_leaf b) ≡ None → b ≡ false
not-any true h = absurd (no_value (leaf_of (kind list)) h)
not-any false h = refl

module _ (table : Table) where
  -- the member lacks, or no number of levels reads it
  abbrev Fails : Field → Data → Type 0
  Fails f d = (f.is_required ≡ true) × (get f.named d ≡ None) ⊎ (e : Data) × (get f.named d ≡ Some e) × ((n : ℕ) → reading table n f.form e ≡ None)

  head_fails : (h : Head) (d : Data) (f : Field) → Holds f (head_fields h) → Fails f d → label_in h d ≡ None
  head_fails (fixed l) d f h bad = absurd h
  head_fails (chosen k words) d f (inr h) bad = absurd h
  head_fails (placed b k) d f h bad = absurd h
  head_fails (chosen k words) d f (inl same) bad = chosen_fails (subst (λ g. Fails g d) (sym same) bad)
    where
      chosen_fails : Fails (field k true (leaf (one_of words))) d → label_in (chosen k words) d ≡ None
      chosen_fails (inl lacks) = rw lacks.1 refl
      chosen_fails (inr (e, there, bad)) = rw there (map_none leaf_of (word_in words e) (bad 1))

  needed_fails : (n : ℕ) (k : Text) (f : Form) (d : Data) → Fails (field k true f) d → needed (reading table n f) (get k d) ≡ None
  needed_fails n k f d (inl lacks) = rw lacks.1 refl
  needed_fails n k f d (inr (e, there, bad)) = rw there (bad n)

  optional_fails : (n : ℕ) (k : Text) (f : Form) (d : Data) → Fails (field k false f) d → optional (reading table n f) (get k d) ≡ None
  optional_fails n k f d (inl lacks) = absurd (no_truth lacks.0)
  optional_fails n k f d (inr (e, there, bad)) = rw there (rw (bad n) refl)

  list_fails : (n : ℕ) (k : Text) (f : Form) (l : SpelledLabel) (d : Data) → Fails (field k false f) d → or_empty l (reading table n f) (get k d) ≡ None
  list_fails n k f l d (inl lacks) = absurd (no_truth lacks.0)
  list_fails n k f l d (inr (e, there, bad)) = rw there (bad n)

  absent_fails : (k : Text) (d : Data) → false ≡ is_some (get k d) → Fails (field k false (leaf a_text)) d → ⊥
  absent_fails k d none (inl lacks) = no_truth lacks.0
  absent_fails k d none (inr (e, there, bad)) = no_truth (none ∙ ap is_some there)

  where_fails : (n : ℕ) (k : Text) (head : Head) (ins : Row) (d : Data) (f : Field) (there : Bool) → there ≡ is_some (get k d) → (Holds f (fields ins d) → Fails f d → children_in (reading table n) ins d ≡ None) → Holds f (if there then head_fields head ++ fields ins d else field k false (leaf a_text) ∷ []) → Fails f d → where_there there (label_in head d) (children_in (reading table n) ins d) ≡ None
  where_fails n k head ins d f true is inside h bad = elim (holds_append f (head_fields head) (fields ins d) h) [
    | inl here ↦ first_none (label_in head d) (children_in (reading table n) ins d) (λ l ts. present_tree (record { label = l; children = ts })) (head_fails head d f here bad)
    | inr later ↦ second_none (label_in head d) (children_in (reading table n) ins d) (λ l ts. present_tree (record { label = l; children = ts })) (inside later bad)
  ]
  where_fails n k head ins d f false is inside (inl same) bad = absurd (absent_fails k d is (subst (λ x. Fails x d) (sym same) bad))
  where_fails n k head ins d f false is inside (inr h) bad = absurd h

  -- what stands beside, of which the member lacks or is no such one
  extra_fails : (x : Extra) (d : Data) → Fails (field (extra_key x) (is_needed x) (leaf (extra x))) d → has_extra x (get (extra_key x) d) ≡ false
  extra_fails a_span d (inl lacks) = absurd (no_truth lacks.0)
  extra_fails a_span d (inr (e, there, bad)) = rw there (not-any (is_extra a_span e) (bad 1))
  extra_fails second_form d (inl lacks) = rw lacks.1 refl
  extra_fails second_form d (inr (e, there, bad)) = rw there (not-any (is_extra second_form e) (bad 1))

  beside_fails : (b : Bool) (o : Option SpelledForest) → (b ≡ false) ⊎ (o ≡ None) → (if b then o else None) ≡ None
  beside_fails true o (inl h) = absurd (no_truth (sym h))
  beside_fails true o (inr h) = h
  beside_fails false o h = refl

  row_fails : (n : ℕ) (row : Row) (d : Data) (f : Field) → Holds f (fields row d) → Fails f d → children_in (reading table n) row d ≡ None
  row_fails n nothing d f h bad = absurd h
  row_fails n (marked k w row) d f h bad = elim (holds_append f (head_fields (chosen k ((w, kind present) ∷ []))) (fields row d) h) [
    | inl here ↦ rw (head_fails (chosen k ((w, kind present) ∷ [])) d f here bad) refl
    | inr later ↦ mark_then (label_in (chosen k ((w, kind present) ∷ [])) d) (children_in (reading table n) row d) (row_fails n row d f later bad)
  ]
  row_fails n (needs k g row) d f (inl same) bad = first_none (needed (reading table n g) (get k d)) (children_in (reading table n) row d) before (needed_fails n k g d (subst (λ x. Fails x d) (sym same) bad))
  row_fails n (needs k g row) d f (inr h) bad = second_none (needed (reading table n g) (get k d)) (children_in (reading table n) row d) before (row_fails n row d f h bad)
  row_fails n (may k g row) d f (inl same) bad = first_none (optional (reading table n g) (get k d)) (children_in (reading table n) row d) before (optional_fails n k g d (subst (λ x. Fails x d) (sym same) bad))
  row_fails n (may k g row) d f (inr h) bad = second_none (optional (reading table n g) (get k d)) (children_in (reading table n) row d) before (row_fails n row d f h bad)
  row_fails n (many k g row) d f (inl same) bad = first_none (or_empty (empty_of g) (reading table n g) (get k d)) (children_in (reading table n) row d) before (list_fails n k g (empty_of g) d (subst (λ x. Fails x d) (sym same) bad))
  row_fails n (many k g row) d f (inr h) bad = second_none (or_empty (empty_of g) (reading table n g) (get k d)) (children_in (reading table n) row d) before (row_fails n row d f h bad)
  row_fails n (given l row) d f h bad = rw (row_fails n row d f h bad) refl
  row_fails n (inner head ins row) d f h bad = elim (holds_append f (head_fields head ++ fields ins d) (fields row d) h) [
    | inl first ↦ elim (holds_append f (head_fields head) (fields ins d) first) [
      | inl here ↦ rw (head_fails head d f here bad) refl
      | inr inside ↦ three_none (label_in head d) (children_in (reading table n) ins d) (children_in (reading table n) row d) (inl (row_fails n ins d f inside bad))
    ]
    | inr rest ↦ three_none (label_in head d) (children_in (reading table n) ins d) (children_in (reading table n) row d) (inr (row_fails n row d f rest bad))
  ]
  row_fails n (inner_where k head ins row) d f h bad =
      elim (holds_append f (if is_some (get k d) then head_fields head ++ fields ins d else field k false (leaf a_text) ∷ []) (fields row d) h) [
        | inl first ↦ first_none (where_there (is_some (get k d)) (label_in head d) (children_in (reading table n) ins d)) (children_in (reading table n) row d) before
            (where_fails n k head ins d f (is_some (get k d)) refl (row_fails n ins d f) first bad)
        | inr rest ↦ second_none (where_there (is_some (get k d)) (label_in head d) (children_in (reading table n) ins d)) (children_in (reading table n) row d) before (row_fails n row d f rest bad)
      ]
  row_fails n (beside false x row) d f h bad = row_fails n row d f h bad
  row_fails n (beside true x row) d f (inl same) bad = beside_fails (has_extra x (get (extra_key x) d)) (children_in (reading table n) row d) (inl (extra_fails x d (subst (λ g. Fails g d) (sym same) bad)))
  row_fails n (beside true x row) d f (inr h) bad = beside_fails (has_extra x (get (extra_key x) d)) (children_in (reading table n) row d) (inr (row_fails n row d f h bad))

  items_fail : (n : ℕ) (f : Form) (ds : Items) (i : ℕ) (e : Data) → get_item i ds ≡ Some e → reading table n f e ≡ None → items_in (reading table n f) ds ≡ None
  items_fail n f no_items i e there bad = refl_none
    where
      refl_none : items_in (reading table n f) no_items ≡ None
      refl_none = absurd (no_value e (sym there))
  items_fail n f (item d ds) zero e there bad = first_none (reading table n f d) (items_in (reading table n f) ds) before (subst (λ x. reading table n f x ≡ None) (sym (some_same there)) bad)
  items_fail n f (item d ds) (suc i) e there bad = second_none (reading table n f d) (items_in (reading table n f) ds) before (items_fail n f ds i e there bad)

  -- a member that has no reading, or lacks, leaves the object without one
  field_fails : (n : ℕ) (m : Name) (d : Data) (nd : Node) (k : Text) (f : Field) → is_some (as_object d) ≡ true → table.nodes m d ≡ Some nd → find_field k (fields nd.row d) ≡ Some f → Fails f d → reading table n (node m) d ≡ None
  field_fails zero m d nd k f is picked found bad = refl
  field_fails (suc n) m d nd k f is picked found bad =
      rw (is, picked) (in_node (has_only (known_keys nd.row d) d) (label_in nd.head d) (children_in (reading table n) nd.row d) (row_fails n nd.row d f (find_holds k (fields nd.row d) f found).0 bad))

  pub wrong_object_fails : (n : ℕ) (m : Name) (d : Data) (nd : Node) → is_some (as_object d) ≡ true → table.nodes m d ≡ Some nd → IsWrongObject nd.row d → reading table n (node m) d ≡ None
  wrong_object_fails zero m d nd is picked bad = refl
  wrong_object_fails (suc n) m d nd is picked (inl unknown) = rw (is, picked) (rw unknown refl)
  wrong_object_fails (suc n) m d nd is picked (inr (k, required, lacks)) =
      let one = is_required_of (find_field k (fields nd.row d)) required in
      field_fails (suc n) m d nd k one.0 is picked one.1 (inl (one.2, subst (λ x. get x d ≡ None) (same_name k (fields nd.row d) one.0 one.1) lacks))

  -- a member in its place that has no reading leaves the object without one
  pub member_fails : (n : ℕ) (m : Name) (d e : Data) (nd : Node) (k : Text) (f : Field) → is_some (as_object d) ≡ true → table.nodes m d ≡ Some nd → find_field k (fields nd.row d) ≡ Some f → get k d ≡ Some e → ((n : ℕ) → reading table n f.form e ≡ None) → reading table n (node m) d ≡ None
  member_fails n m d e nd k f is picked found there bad = field_fails n m d nd k f is picked found (inr (e, subst (λ x. get x d ≡ Some e) (same_name k (fields nd.row d) f found) there, bad))

-- ---- keys that an object may not have

or-case : (a b : Bool) → (a || b) ≡ true → (a ≡ true) ⊎ (b ≡ true)
or-case true b h = inl refl
or-case false b h = inr h

abbrev has : Text → List Text → Bool
has k ks = list_any (λ x. bytes_eq x k) ks

has-append : (k : Text) (xs ys : List Text) → has k (xs ++ ys) ≡ true → (has k xs ≡ true) ⊎ (has k ys ≡ true)
has-append k [] ys h = inr h
has-append k (x ∷ xs) ys h = elim (or-case (bytes_eq x k) (has k (xs ++ ys)) h) [
  | inl here ↦ inl (ap (λ b. b || has k xs) here)
  | inr later ↦ elim (has-append k xs ys later) [ inl one ↦ inl (ap (λ b. bytes_eq x k || b) one ∙ or-true (bytes_eq x k)) | inr two ↦ inr two ]
]

abbrev found : Text → List Field → Bool
found k fs = is_some (find_field k fs)

found-if : (b : Bool) (f : Field) (o : Option Field) → (b ≡ true) ⊎ (is_some o ≡ true) → is_some (if b then Some f else o) ≡ true
found-if true f o h = refl
found-if false f o (inl h) = absurd (no_truth h)
found-if false f o (inr h) = h

same-keys : (x k : Text) → bytes_eq x k ≡ true → bytes_eq k x ≡ true
same-keys x k h = (bytes_eq-Decides k x).1 (sym ((bytes_eq-Decides x k).0 h))

found-cons : (k : Text) (f : Field) (fs : List Field) → (bytes_eq f.named k ≡ true) ⊎ (found k fs ≡ true) → found k (f ∷ fs) ≡ true
found-cons k f fs (inl here) = found-if (bytes_eq k f.named) f (find_field k fs) (inl (same-keys f.named k here))
found-cons k f fs (inr later) = found-if (bytes_eq k f.named) f (find_field k fs) (inr later)

found-either : (b : Bool) (f : Field) (one both : Option Field) → (is_some one ≡ true → is_some both ≡ true) → is_some (if b then Some f else one) ≡ true → is_some (if b then Some f else both) ≡ true
found-either true f one both later h = refl
found-either false f one both later h = later h

found-append : (k : Text) (fs gs : List Field) → (found k fs ≡ true) ⊎ (found k gs ≡ true) → found k (fs ++ gs) ≡ true
found-append k [] gs (inl h) = absurd (no_truth h)
found-append k [] gs (inr h) = h
found-append k (f ∷ fs) gs (inr h) = found-cons k f (fs ++ gs) (inr (found-append k fs gs (inr h)))
found-append k (f ∷ fs) gs (inl h) = found-either (bytes_eq k f.named) f (find_field k fs) (find_field k (fs ++ gs)) (λ x. found-append k fs gs (inl x)) h

head-found : (k : Text) (h : Head) → has k (head_keys h) ≡ true → found k (head_fields h) ≡ true
head-found k (fixed l) h = absurd (no_truth h)
head-found k (placed b l) h = absurd (no_truth h)
head-found k (chosen x words) h = found-cons k (field x true (leaf (one_of words))) [] (elim (or-case (bytes_eq x k) false h) [ inl here ↦ inl here | inr later ↦ absurd (no_truth later) ])

-- a key that an object may have is that of a field
one-known : (k x : Text) (required : Bool) (f : Form) (row : Row) (d : Data) → has k (x ∷ known_keys row d) ≡ true → (has k (known_keys row d) ≡ true → found k (fields row d) ≡ true) → found k (field x required f ∷ fields row d) ≡ true
one-known k x required f row d h later = found-cons k (field x required f) (fields row d) (elim (or-case (bytes_eq x k) (has k (known_keys row d)) h) [ inl here ↦ inl here | inr rest ↦ inr (later rest) ])

where-known : (k x : Text) (head : Head) (ins : Row) (d : Data) (there : Bool) → (has k (known_keys ins d) ≡ true → found k (fields ins d) ≡ true) → has k (if there then head_keys head ++ known_keys ins d else []) ≡ true → found k (if there then head_fields head ++ fields ins d else field x false (leaf a_text) ∷ []) ≡ true
where-known k x head ins d true inside h = found-append k (head_fields head) (fields ins d) (elim (has-append k (head_keys head) (known_keys ins d) h) [ inl here ↦ inl (head-found k head here) | inr rest ↦ inr (inside rest) ])
where-known k x head ins d false inside h = absurd (no_truth h)

known-found : (k : Text) (row : Row) (d : Data) → has k (known_keys row d) ≡ true → found k (fields row d) ≡ true
known-found k nothing d h = absurd (no_truth h)
known-found k (marked x w row) d h = one-known k x true (leaf (one_of ((w, kind present) ∷ []))) row d h (known-found k row d)
known-found k (needs x f row) d h = one-known k x true f row d h (known-found k row d)
known-found k (may x f row) d h = one-known k x false f row d h (known-found k row d)
known-found k (many x f row) d h = one-known k x false f row d h (known-found k row d)
known-found k (given l row) d h = known-found k row d h
known-found k (beside false x row) d h = known-found k row d h
known-found k (beside true x row) d h = one-known k (extra_key x) (is_needed x) (leaf (extra x)) row d h (known-found k row d)
known-found k (inner head ins row) d h = elim (has-append k (head_keys head ++ known_keys ins d) (known_keys row d) h) [
  | inl first ↦ found-append k (head_fields head ++ fields ins d) (fields row d) (inl (found-append k (head_fields head) (fields ins d) (elim (has-append k (head_keys head) (known_keys ins d) first) [ inl here ↦ inl (head-found k head here) | inr rest ↦ inr (known-found k ins d rest) ])))
  | inr rest ↦ found-append k (head_fields head ++ fields ins d) (fields row d) (inr (known-found k row d rest))
]
known-found k (inner_where x head ins row) d h = elim (has-append k (if is_some (get x d) then head_keys head ++ known_keys ins d else []) (known_keys row d) h) [
  | inl first ↦ found-append k (if is_some (get x d) then head_fields head ++ fields ins d else field x false (leaf a_text) ∷ []) (fields row d) (inl (where-known k x head ins d (is_some (get x d)) (known-found k ins d) first))
  | inr rest ↦ found-append k (if is_some (get x d) then head_fields head ++ fields ins d else field x false (leaf a_text) ∷ []) (fields row d) (inr (known-found k row d rest))
]

-- ---- members and items

pub same-text : (k l : Text) → slice_cmp nat_cmp k l ≡ Equal → k ≡ l
same-text k l h = (bytes_eq-Decides k l).0 (sym (is_eq-slice_cmp k l) ∙ ap is_eq h)

-- what is not so of one member is not so of all
by-order : (k l : Text) (x e : Data) (ms : Members) (test : Text → Data → Bool) (others : Bool) (o : Ordering) → slice_cmp nat_cmp k l ≡ o → test k e ≡ false → (get_member k ms ≡ Some e → others ≡ false) → match_ordering o (get_member k ms) (Some x) (get_member k ms) ≡ Some e → (test l x && others) ≡ false
by-order k l x e ms test others Less is bad later h = ap (λ b. test l x && b) (later h) ∙ and-false (test l x)
by-order k l x e ms test others Equal is bad later h = ap (λ b. b && others) (ap (λ y. test y x) (sym (same-text k l is)) ∙ ap (test k) (some_same h) ∙ bad)
by-order k l x e ms test others Greater is bad later h = ap (λ b. test l x && b) (later h) ∙ and-false (test l x)

member-fails : (test : Text → Data → Bool) (all : Members → Bool) → ((l : Text) (x : Data) (ms : Members) → all (member l x ms) ≡ (test l x && all ms)) → (k : Text) (e : Data) → test k e ≡ false → (ms : Members) → get_member k ms ≡ Some e → all ms ≡ false
member-fails test all step k e bad no_members there = absurd (no_value e (sym there))
member-fails test all step k e bad (member l x ms) there = step l x ms ∙ by-order k l x e ms test (all ms) (slice_cmp nat_cmp k l) refl bad (member-fails test all step k e bad ms) there

unknown-fails : (ks : List Text) (k : Text) (e : Data) (ms : Members) → get_member k ms ≡ Some e → has k ks ≡ false → all_known ks ms ≡ false
unknown-fails ks k e ms there none = member-fails (λ l x. has l ks) (all_known ks) (λ l x ms. refl) k e none ms there

float-by-order : (x e : Data) (o : Ordering) (rest : Option Data) (others : Bool) → has_float e ≡ true → (rest ≡ Some e → others ≡ true) → match_ordering o rest (Some x) rest ≡ Some e → (has_float x || others) ≡ true
float-by-order x e Less rest others h later is = ap (λ b. has_float x || b) (later is) ∙ or-true (has_float x)
float-by-order x e Equal rest others h later is = ap (λ b. b || others) (ap has_float (some_same is) ∙ h)
float-by-order x e Greater rest others h later is = ap (λ b. has_float x || b) (later is) ∙ or-true (has_float x)

members-float : (k : Text) (e : Data) (ms : Members) → get_member k ms ≡ Some e → has_float e ≡ true → members_have_float ms ≡ true
members-float k e no_members there h = absurd (no_value e (sym there))
members-float k e (member l x ms) there h = float-by-order x e (slice_cmp nat_cmp k l) (get_member k ms) (members_have_float ms) h (λ is. members-float k e ms is h) there

pub items-float : (i : ℕ) (e : Data) (ds : Items) → get_item i ds ≡ Some e → has_float e ≡ true → items_have_float ds ≡ true
items-float i e no_items there h = absurd (no_value e (sym there))
items-float zero e (item d ds) there h = ap (λ b. b || items_have_float ds) (ap has_float (some_same there) ∙ h)
items-float (suc i) e (item d ds) there h = ap (λ b. has_float d || b) (items-float i e ds there h) ∙ or-true (has_float d)

texts-fail : (read : Data → Option Text) (ds : Items) (i : ℕ) (e : Data) → get_item i ds ≡ Some e → read e ≡ None → texts_in read ds ≡ None
texts-fail read no_items i e there bad = absurd (no_value e (sym there))
texts-fail read (item d ds) zero e there bad = first_none (read d) (texts_in read ds) (λ x xs. x ∷ xs) (ap read (some_same there) ∙ bad)
texts-fail read (item d ds) (suc i) e there bad = second_none (read d) (texts_in read ds) (λ x xs. x ∷ xs) (texts-fail read ds i e there bad)

not-false : (b : Bool) → not b ≡ false → b ≡ true
not-false true h = refl
not-false false h = absurd (no_truth (sym h))

float-refused : (b : Bool) → b ≡ true → option_map leaf_of (any_leaf (not b)) ≡ None
float-refused b h = rw h refl

-- ---- a value that is itself wrong

leaf-wrong : (table : Table) (l : Leaf) (d : Data) → IsWrongLeaf table l d → option_map leaf_of (leaf_label l d) ≡ None
leaf-wrong table (an_ident r) d h = ap (option_map leaf_of) h
leaf-wrong table a_name d h = ap (option_map leaf_of) h
leaf-wrong table a_text d h = ap (option_map leaf_of) h
leaf-wrong table a_literal d h = ap (option_map leaf_of) h
leaf-wrong table some_names d h = ap (λ o. option_map leaf_of (option_map texts (option_and_then (texts_in name_in) o))) h
leaf-wrong table a_path d h = ap (option_map leaf_of) h
leaf-wrong table (one_of words) d h = ap (option_map leaf_of) h
leaf-wrong table (extra x) d h = ap (option_map leaf_of) h
leaf-wrong table anything null h = absurd (no_value true (sym h))
leaf-wrong table anything (boolean b) h = absurd (no_value true (sym h))
leaf-wrong table anything (number n) h = float-refused (is_float n) (some_same h)
leaf-wrong table anything (string s) h = absurd (no_value true (sym h))
leaf-wrong table anything (array ds) h = absurd (no_value true (sym h))
leaf-wrong table anything (object ms) h = absurd (no_value true (sym h))

-- ---- spans

-- a value with a float is no whole number
no-whole : (d : Data) → has_float d ≡ true → whole_number d ≡ None
no-whole null h = absurd (no_truth h)
no-whole (boolean b) h = absurd (no_truth h)
no-whole (number (unsigned n)) h = absurd (no_truth h)
no-whole (number (negative z)) h = absurd (no_truth h)
no-whole (number (float x)) h = refl
no-whole (string s) h = absurd (no_truth h)
no-whole (array ds) h = refl
no-whole (object ms) h = refl

span-first : (a b : Option ℕ) → a ≡ None → option_and_then (λ s. option_and_then (λ e. ordered s e) b) a ≡ None
span-first a b h = rw h refl

span-second : (a b : Option ℕ) → b ≡ None → option_and_then (λ s. option_and_then (λ e. ordered s e) b) a ≡ None
span-second None b h = refl
span-second (Some s) b h = rw h refl

span-float : (i : ℕ) (ds : Items) (e : Data) → get_item i ds ≡ Some e → has_float e ≡ true → span_of_items ds ≡ None
span-float i no_items e there h = refl
span-float i (item a no_items) e there h = refl
span-float zero (item a (item b no_items)) e there h = span-first (whole_number a) (whole_number b) (no-whole a (ap has_float (some_same there) ∙ h))
span-float (suc zero) (item a (item b no_items)) e there h = span-second (whole_number a) (whole_number b) (no-whole b (ap has_float (some_same there) ∙ h))
span-float (suc (suc i)) (item a (item b no_items)) e there h = absurd (no_value e (sym there))
span-float i (item a (item b (item c ds))) e there h = refl

extra-float : (x : Extra) (i : ℕ) (ds : Items) (e : Data) → get_item i ds ≡ Some e → has_float e ≡ true → is_extra x (array ds) ≡ false
extra-float a_span i ds e there h = ap is_some (span-float i ds e there h)
extra-float second_form i ds e there h = refl

-- a list is no short form of a node
abbrev pub ListsAreNoNodes : Table → Type 0
ListsAreNoNodes table = (m : Name) (ds : Items) → table.shorts m (array ds) ≡ None

module _ (table : Table) (flat : ListsAreNoNodes table) where
  no-node-fails : (n : ℕ) (m : Name) (d : Data) → is_some (as_object d) ≡ true → table.nodes m d ≡ None → reading table n (node m) d ≡ None
  no-node-fails zero m d is none = refl
  no-node-fails (suc n) m d is none = rw (is, none) refl

  wrong-node : (n : ℕ) (m : Name) (d : Data) (o : Option Node) → is_some (as_object d) ≡ true → table.nodes m d ≡ o → IsWrongNode table o d → reading table n (node m) d ≡ None
  wrong-node n m d None is picked h = no-node-fails n m d is picked
  wrong-node n m d (Some nd) is picked h = wrong_object_fails table n m d nd is picked h

  wrong-value : (n : ℕ) (m : Name) (d : Data) (o : Option Members) → as_object d ≡ o → IsWrongValue table m d o → reading table (suc n) (node m) d ≡ None
  wrong-value n m d None is h = rw is h
  wrong-value n m d (Some ms) is h = wrong-node (suc n) m d (table.nodes m d) (ap is_some is) refl h

  module _ (path : List Part) (below : (g : Form) (e : Data) → BreaksAt table path (Some g) e → (n : ℕ) → reading table n g e ≡ None) where
    abbrev form_of : Option Field → Option Form
    form_of o = option_map (λ x. x.form) o

    field-key : (n : ℕ) (m : Name) (k : Text) (ms : Members) (e : Data) (nd : Node) (o : Option Field) → table.nodes m (object ms) ≡ Some nd → get_member k ms ≡ Some e → find_field k (fields nd.row (object ms)) ≡ o → BreaksAt table path (form_of o) e → reading table (suc n) (node m) (object ms) ≡ None
    field-key n m k ms e nd None picked there none h =
        let unknown : has k (known_keys nd.row (object ms)) ≡ false = unless (has k (known_keys nd.row (object ms))) (λ yes. no_truth (sym (ap is_some none) ∙ known-found k nd.row (object ms) yes)) in
        wrong_object_fails table (suc n) m (object ms) nd refl picked (inl (unknown-fails (known_keys nd.row (object ms)) k e ms there unknown))
      where
        unless : (b : Bool) → (b ≡ true → ⊥) → b ≡ false
        unless true h = absurd (h refl)
        unless false h = refl
    field-key n m k ms e nd (Some f) picked there is h = member_fails table (suc n) m (object ms) e nd k f refl picked is there (below f.form e h)

    node-key : (n : ℕ) (m : Name) (k : Text) (ms : Members) (e : Data) (o : Option Node) → table.nodes m (object ms) ≡ o → get_member k ms ≡ Some e → BreaksAt table path (form_of (find_field k (elim o as (λ _. List Field) [ None ↦ [] | Some nd ↦ fields nd.row (object ms) ]))) e → reading table (suc n) (node m) (object ms) ≡ None
    node-key n m k ms e None picked there h = no-node-fails (suc n) m (object ms) refl picked
    node-key n m k ms e (Some nd) picked there h = field-key n m k ms e nd (find_field k (fields nd.row (object ms))) picked there refl h

    key-object : (n : ℕ) (f : Form) (k : Text) (ms : Members) (e : Data) → get_member k ms ≡ Some e → BreaksAt table path (member_form table f k (object ms)) e → reading table (suc n) f (object ms) ≡ None
    key-object n (leaf (an_ident r)) k ms e there h = refl
    key-object n (leaf a_name) k ms e there h = refl
    key-object n (leaf a_text) k ms e there h = refl
    key-object n (leaf a_literal) k ms e there h = refl
    key-object n (leaf some_names) k ms e there h = refl
    key-object n (leaf a_path) k ms e there h = refl
    key-object n (leaf (one_of words)) k ms e there h = refl
    key-object n (leaf (extra a_span)) k ms e there h = refl
    key-object n (leaf (extra second_form)) k ms e there h = refl
    key-object n (leaf anything) k ms e there h =
        let float : has_float e ≡ true = not-false (has_float e) (not-any (not (has_float e)) (below (leaf anything) e h 1)) in
        float-refused (members_have_float ms) (members-float k e ms there float)
    key-object n (list_of which m) k ms e there h = refl
    key-object n (node m) k ms e there h = node-key n m k ms e (table.nodes m (object ms)) refl there h

    key-value : (n : ℕ) (f : Form) (k : Text) (d e : Data) → get k d ≡ Some e → BreaksAt table path (member_form table f k d) e → reading table (suc n) f d ≡ None
    key-value n f k null e there h = absurd (no_value e (sym there))
    key-value n f k (boolean b) e there h = absurd (no_value e (sym there))
    key-value n f k (number x) e there h = absurd (no_value e (sym there))
    key-value n f k (string s) e there h = absurd (no_value e (sym there))
    key-value n f k (array ds) e there h = absurd (no_value e (sym there))
    key-value n f k (object ms) e there h = key-object n f k ms e there h

    index-array : (n : ℕ) (f : Form) (i : ℕ) (ds : Items) (e : Data) → get_item i ds ≡ Some e → BreaksAt table path (item_form table f) e → reading table (suc n) f (array ds) ≡ None
    index-array n (leaf (an_ident r)) i ds e there h = refl
    index-array n (leaf a_name) i ds e there h = refl
    index-array n (leaf a_text) i ds e there h = refl
    index-array n (leaf a_literal) i ds e there h = refl
    index-array n (leaf some_names) i ds e there h =
        let none : name_in e ≡ None = map_none text (name_in e) (map_none leaf_of (option_map text (name_in e)) (below (leaf a_name) e h 1)) in
        ap (λ o. option_map leaf_of (option_map texts o)) (texts-fail name_in ds i e there none)
    index-array n (leaf a_path) i ds e there h = refl
    index-array n (leaf (one_of words)) i ds e there h = refl
    index-array n (leaf (extra x)) i ds e there h =
        let float : has_float e ≡ true = not-false (has_float e) (not-any (not (has_float e)) (below (leaf anything) e h 1)) in
        ap (λ b. option_map leaf_of (any_leaf b)) (extra-float x i ds e there float)
    index-array n (leaf anything) i ds e there h =
        let float : has_float e ≡ true = not-false (has_float e) (not-any (not (has_float e)) (below (leaf anything) e h 1)) in
        float-refused (items_have_float ds) (items-float i e ds there float)
    index-array n (list_of which m) i ds e there h = ap (option_map (λ ts. record { label = kind which; children = ts })) (items_fail table n (node m) ds i e there (below (node m) e h n))
    index-array n (node m) i ds e there h = flat m ds

    index-value : (n : ℕ) (f : Form) (i : ℕ) (d e : Data) → at i d ≡ Some e → BreaksAt table path (item_form table f) e → reading table (suc n) f d ≡ None
    index-value n f i null e there h = absurd (no_value e (sym there))
    index-value n f i (boolean b) e there h = absurd (no_value e (sym there))
    index-value n f i (number x) e there h = absurd (no_value e (sym there))
    index-value n f i (string s) e there h = absurd (no_value e (sym there))
    index-value n f i (array ds) e there h = index-array n f i ds e there h
    index-value n f i (object ms) e there h = absurd (no_value e (sym there))

  get-object : (k : Text) (d e : Data) → get k d ≡ Some e → is_some (as_object d) ≡ true
  get-object k null e there = absurd (no_value e (sym there))
  get-object k (boolean b) e there = absurd (no_value e (sym there))
  get-object k (number x) e there = absurd (no_value e (sym there))
  get-object k (string s) e there = absurd (no_value e (sym there))
  get-object k (array ds) e there = absurd (no_value e (sym there))
  get-object k (object ms) e there = refl

  wrong-form : (n : ℕ) (f : Form) (d : Data) → IsWrong table f d → reading table n f d ≡ None
  wrong-form zero f d h = refl
  wrong-form (suc n) (leaf l) d h = leaf-wrong table l d h
  wrong-form (suc n) (list_of k m) d h = ap (λ o. option_map {U = Spelled} (λ ts. record { label = kind k; children = ts }) (option_and_then (items_in (reading table n (node m))) o)) h
  wrong-form (suc n) (node m) d h = wrong-value n m d (as_object d) refl h

  unknown-word : (n : ℕ) (f : Form) (k : Text) (d e : Data) → get k d ≡ Some e → HasUnknownWord table (Some f) k d → reading table n f d ≡ None
  unknown-word n (leaf l) k d e there h = absurd h
  unknown-word n (list_of which m) k d e there h = absurd h
  unknown-word n (node m) k d e there h = no-node-fails n m d (get-object k d e there) h.1

  key-form : (path : List Part) → ((g : Form) (e : Data) → BreaksAt table path (Some g) e → (n : ℕ) → reading table n g e ≡ None) → (n : ℕ) (f : Form) (k : Text) (d e : Data) → get k d ≡ Some e → BreaksAt table path (member_form table f k d) e ⊎ (path ≡ []) × HasUnknownWord table (Some f) k d → reading table n f d ≡ None
  key-form path below zero f k d e there h = refl
  key-form path below (suc n) f k d e there (inl h) = key-value path below n f k d e there h
  key-form path below (suc n) f k d e there (inr h) = unknown-word (suc n) f k d e there h.1

  index-form : (path : List Part) → ((g : Form) (e : Data) → BreaksAt table path (Some g) e → (n : ℕ) → reading table n g e ≡ None) → (n : ℕ) (f : Form) (i : ℕ) (d e : Data) → at i d ≡ Some e → BreaksAt table path (item_form table f) e → reading table n f d ≡ None
  index-form path below zero f i d e there h = refl
  index-form path below (suc n) f i d e there h = index-value path below n f i d e there h

  pub broken-is-refused : BrokenIsRefused table
  broken-is-refused [] f d h n = wrong-form n f d h
  broken-is-refused (key k ∷ path) f d (e, there, h) n = key-form path (broken-is-refused path) n f k d e there h
  broken-is-refused (index i ∷ path) f d (e, there, h) n = index-form path (broken-is-refused path) n f i d e there h

-- ---- the tables

whole-lists-case : (m : Name) (ds : Items) → shorts_of m (array ds) ≡ None
whole-lists-case a_type ds = refl
whole-lists-case an_expression ds = refl
whole-lists-case a_template_argument ds = refl
whole-lists-case a_case ds = refl
whole-lists-case an_attribute ds = refl
whole-lists-case _ ds = refl

pub whole-lists : (spans : Bool) → ListsAreNoNodes (whole_form spans)
whole-lists spans m ds = whole-lists-case m ds

pub whole_form_refuses : WholeFormRefuses
whole_form_refuses spans = broken-is-refused (whole_form spans) (whole-lists spans)
