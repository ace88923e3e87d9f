-- Lists that are printed, item by item.
use Rattle.std.proofs.Common.{◌≡◌, ℕ, Bool, ◌+◌, ◌<◌, ◌≤◌, List, [], ◌∷◌, ◌++◌, length, drop, get_or, map, String, Global, string_bytes, append_assoc, refl, sym, ap, ◌∙◌, arith}
use Rattle.std.proofs.lemmas.List.{drop_all, drop_more}
use Rattle.wesl_json_print_nodes.specs.Events.{begins_list, ends_list, Event, events, items_events, key}
use Rattle.serde_json.specs.Data.{Data, array, string, Items, no_items, item, no_members}
use Rattle.wesl_json_form.specs.Schema.{Name, node}
use Rattle.wesl_json_form.specs.Writing.{put_list, texts_value}
use Rattle.wesl_json_print_nodes.specs.Printing.{PrintsEvents, Prints, PrintsList, inside}
use Rattle.wesl_json_print_nodes.specs.declared.printer.Printer.{Printer}
use Rattle.wesl_json_print_nodes.proofs.Adding.{Lawful, keyed, none, then, told}
use Rattle.wesl_json_words.specs.Values.{items_in, value_in}
use Rattle.wesl_tree_names.specs.Path.{Text}
use Rattle.wesl_tree_syntax.specs.Tree.{Tree, forest_of}

module _ {A : Type 0} (value : A → Data) where
  -- the values of all
  abbrev pub items_by : List A → Items
  items_by [] = no_items
  items_by (x ∷ xs) = item (value x) (items_by xs)

  module _ (xs : List A) where
    -- the items from the i-th on, with the end of the list
    abbrev left : ℕ → List Event
    left i = items_events (items_by (drop i xs))

    -- what was printed before the i-th
    abbrev pub AreBefore : {S : Type 0} → (List Event → S → S → Type 0) → Printer S → Printer S → ℕ → Type 0
    AreBefore after start now i = (ts : List Event) × PrintsEvents after start now ts × (ts ++ left i ≡ left 0)

    pub none_before : {S : Type 0} {after : List Event → S → S → Type 0} (l : Lawful after) (a : Printer S) → AreBefore after a a 0
    none_before l a = ([], none l a, refl)

    left_more : (i : ℕ) (x : A) → i < length xs → x ≡ get_or xs i x → left i ≡ events (value x) ++ left (i + 1)
    left_more i x within here = ap (λ ys. items_events (items_by ys)) (drop_more xs i x within ∙ ap (λ y. y ∷ drop (i + 1) xs) (sym here))

    pub one_more : {S : Type 0} {after : List Event → S → S → Type 0} (l : Lawful after) {a b c : Printer S} (i : ℕ) (x : A) → i < length xs → x ≡ get_or xs i x → AreBefore after a b i → Prints after b c (value x) → AreBefore after a c (i + 1)
    one_more l i x within here so_far h =
        let this = events (value x) in
        (so_far.0 ++ this, then l so_far.1 h, append_assoc so_far.0 this (left (i + 1)) ∙ ap (λ r. so_far.0 ++ r) (sym (left_more i x within here)) ∙ so_far.2)

    pub all_before : {S : Type 0} {after : List Event → S → S → Type 0} (l : Lawful after) {o a b c : Printer S} (ys : List A) (i : ℕ) → xs ≡ ys → length xs ≤ i → PrintsEvents after o a (begins_list ∷ []) → AreBefore after a b i → PrintsEvents after b c (ends_list ∷ []) → Prints after o c (array (items_by ys))
    all_before l ys i same all first so_far h =
        let inside_it = then l so_far.1 h in
        let both = then l first inside_it in
        told (ap (λ r. begins_list ∷ (so_far.0 ++ r)) (sym (ap (λ zs. items_events (items_by zs)) (drop_all i xs all))) ∙ ap (λ r. begins_list ∷ r) so_far.2 ∙ ap (λ zs. begins_list ∷ items_events (items_by zs)) same) both

  -- a member that is a list, where the list is empty and where it is not
  pub no_list : (xs : List A) (k : Text) {S : Type 0} {after : List Event → S → S → Type 0} (l : Lawful after) (a : Printer S) → xs ≡ [] → PrintsList after a a k (items_by xs)
  no_list xs k l a is = rw is (none l a)

  pub some_list : {S : Type 0} {after : List Event → S → S → Type 0} (l : Lawful after) {a b c : Printer S} (xs : List A) (k : Text) → 0 < length xs → PrintsEvents after a b (key k ∷ []) → Prints after b c (array (items_by xs)) → PrintsList after a c k (items_by xs)
  some_list l [] k some h i = absurd (omega arith)
  some_list l (x ∷ xs) k some h i = let both = keyed l h i in both

-- ---- nodes

module _ (spans : Bool) (names : List Text) (m : Name) {A : Type 0} (f : A → Tree) where
  abbrev value_of : A → Data
  value_of x = value_in spans names (node m) (f x)

  abbrev items_of : List A → Items
  items_of xs = items_in spans names m (forest_of (map f xs))

  items_same : (xs : List A) → items_by value_of xs ≡ items_of xs
  unfolding items_in value_in
  items_same [] = refl
  items_same (x ∷ xs) = ap (item (value_in spans names (node m) (f x))) (items_same xs)

  -- what was printed before the i-th node
  abbrev pub AreNodesBefore : {S : Type 0} → (List Event → S → S → Type 0) → List A → Printer S → Printer S → ℕ → Type 0
  AreNodesBefore after xs start now i = AreBefore value_of xs after start now i

  pub no_nodes_before : {S : Type 0} {after : List Event → S → S → Type 0} (l : Lawful after) (xs : List A) (a : Printer S) → AreNodesBefore after xs a a 0
  no_nodes_before l xs a = none_before value_of xs l a

  pub one_node_more : {S : Type 0} {after : List Event → S → S → Type 0} (l : Lawful after) {a b c : Printer S} (xs : List A) (i : ℕ) (x : A) (d : Data) → i < length xs → x ≡ get_or xs i x → d ≡ value_in spans names (node m) (f x) → AreNodesBefore after xs a b i → Prints after b c d → AreNodesBefore after xs a c (i + 1)
  one_node_more l xs i x d within here is so_far h = one_more value_of xs l i x within here so_far (told (ap events is) h)

  pub all_nodes_before : {S : Type 0} {after : List Event → S → S → Type 0} (l : Lawful after) {o a b c : Printer S} (xs ys : List A) (i : ℕ) → xs ≡ ys → length xs ≤ i → PrintsEvents after o a (begins_list ∷ []) → AreNodesBefore after xs a b i → PrintsEvents after b c (ends_list ∷ []) → Prints after o c (array (items_in spans names m (forest_of (map f ys))))
  all_nodes_before l xs ys i same all first so_far h = told (ap (λ ds. events (array ds)) (items_same ys)) (all_before value_of xs l ys i same all first so_far h)

  -- a member that is a list of nodes, where it is empty and where it is not
  pub no_nodes : (xs : List A) (k : Text) {S : Type 0} {after : List Event → S → S → Type 0} (l : Lawful after) (a : Printer S) → xs ≡ [] → PrintsList after a a k (items_in spans names m (forest_of (map f xs)))
  no_nodes xs k l a is = told (ap (λ ds. inside (put_list k (array ds) no_members)) (items_same xs)) (no_list value_of xs k l a is)

  pub some_nodes : {S : Type 0} {after : List Event → S → S → Type 0} (l : Lawful after) {a b c : Printer S} (xs : List A) (k : Text) → 0 < length xs → PrintsEvents after a b (key k ∷ []) → Prints after b c (array (items_in spans names m (forest_of (map f xs)))) → PrintsList after a c k (items_in spans names m (forest_of (map f xs)))
  some_nodes l xs k some h i =
      told (ap (λ ds. inside (put_list k (array ds) no_members)) (items_same xs)) (some_list value_of l xs k some h (told (ap (λ ds. events (array ds)) (sym (items_same xs))) i))

-- ---- texts

abbrev text_value : String Global → Data
text_value x = string (string_bytes x)

texts_same : (xs : List (String Global)) → items_by text_value xs ≡ texts_value (map string_bytes xs)
texts_same [] = refl
texts_same (x ∷ xs) = ap (item (string (string_bytes x))) (texts_same xs)

abbrev pub AreTextsBefore : {S : Type 0} → (List Event → S → S → Type 0) → List (String Global) → Printer S → Printer S → ℕ → Type 0
AreTextsBefore after xs start now i = AreBefore text_value xs after start now i

pub no_texts_before : {S : Type 0} {after : List Event → S → S → Type 0} (l : Lawful after) (xs : List (String Global)) (a : Printer S) → AreTextsBefore after xs a a 0
no_texts_before l xs a = none_before text_value xs l a

pub one_text_more : {S : Type 0} {after : List Event → S → S → Type 0} (l : Lawful after) {a b c : Printer S} (xs : List (String Global)) (i : ℕ) (x : String Global) (t : Text) → i < length xs → x ≡ get_or xs i x → t ≡ string_bytes x → AreTextsBefore after xs a b i → Prints after b c (string t) → AreTextsBefore after xs a c (i + 1)
one_text_more l xs i x t within here is so_far h = one_more text_value xs l i x within here so_far (told (ap (λ u. events (string u)) is) h)

pub all_texts_before : {S : Type 0} {after : List Event → S → S → Type 0} (l : Lawful after) {o a b c : Printer S} (xs ys : List (String Global)) (i : ℕ) → xs ≡ ys → length xs ≤ i → PrintsEvents after o a (begins_list ∷ []) → AreTextsBefore after xs a b i → PrintsEvents after b c (ends_list ∷ []) → Prints after o c (array (texts_value (map string_bytes ys)))
all_texts_before l xs ys i same all first so_far h = told (ap (λ ds. events (array ds)) (texts_same ys)) (all_before text_value xs l ys i same all first so_far h)

pub no_texts : (xs : List (String Global)) (k : Text) {S : Type 0} {after : List Event → S → S → Type 0} (l : Lawful after) (a : Printer S) → xs ≡ [] → PrintsList after a a k (texts_value (map string_bytes xs))
no_texts xs k l a is = told (ap (λ ds. inside (put_list k (array ds) no_members)) (texts_same xs)) (no_list text_value xs k l a is)

pub some_texts : {S : Type 0} {after : List Event → S → S → Type 0} (l : Lawful after) {a b c : Printer S} (xs : List (String Global)) (k : Text) → 0 < length xs → PrintsEvents after a b (key k ∷ []) → Prints after b c (array (texts_value (map string_bytes xs))) → PrintsList after a c k (texts_value (map string_bytes xs))
some_texts l xs k some h i =
    told (ap (λ ds. inside (put_list k (array ds) no_members)) (texts_same xs)) (some_list text_value l xs k some h (told (ap (λ ds. events (array ds)) (sym (texts_same xs))) i))
