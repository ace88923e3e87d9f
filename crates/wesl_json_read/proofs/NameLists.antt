-- What is read of a list of names.
use Rattle.std.proofs.Common.{◌≡◌, true, subst, ℕ, ◌+◌, ◌<◌, ◌≤◌, List, [], ◌∷◌, ◌++◌, length, get_or, Bool, map, take, Option, Some, None, option_map, option_and_then, String, Global, string_bytes, refl, sym, ap, ◌∙◌}
use Rattle.std.proofs.lemmas.List.{take_more, take_all}
use Rattle.serde_json.specs.Data.{Data, depth}
use Rattle.std.specs.Option.{is_some}
use Rattle.serde_json.specs.Find.{at, as_array, get}
use Rattle.wesl_json_form.specs.View.{borrowed_view, items_view}
use Rattle.wesl_json_form.specs.declared.value.BorrowedValue.{BorrowedValue}
use Rattle.wesl_tree_names.specs.Path.{Text}
use Rattle.wesl_tree_names.specs.declared.errors.Error as error
use Rattle.wesl_tree_syntax.specs.Tree.{end, text, texts, leaf as leaf_tree}
use Rattle.wesl_json_form.specs.Schema.{leaf, some_names}
use Rattle.wesl_json_form.specs.Nodes.{whole_form}
use Rattle.wesl_json_form.specs.Reading.{texts_in, list_in, name_in, or_empty, reading}
use Rattle.wesl_json_form.specs.Place.{IsBroken}
use Rattle.wesl_json_form.specs.Pointer.{index, key, part_text}
use Rattle.wesl_json_read.specs.Faults.{IsInside, IsUnderPart, LocatesHere, Locates}
use Rattle.wesl_json_read.specs.Numbers.{Reads, ReadsMany}
use Rattle.wesl_json_read.specs.Noted.{IsList, IsNoList, IsTold, IsToldOrRefused, Notes, NotesMany, NotesNoList}
use Rattle.wesl_json_read.specs.Texts.{NotesText}
use Rattle.wesl_json_read.specs.declared.leaves.TextKind.TheVariants as kinds
use Rattle.wesl_json_read.specs.declared.reader.Reader.{Reader}
use Rattle.wesl_json_read.proofs.Noting.{listed_value, next_item, part_of, voided, weaker}
use Rattle.wesl_json_form.proofs.Depths.{item-at}
use Rattle.wesl_json_read.proofs.Places.{IfPlace-more, further, inside-under, memory}
use Rattle.wesl_json_read.proofs.Rows.{none-read, over, plain-texts}
use Rattle.wesl_json_read.proofs.Steps.{leaf-reads, many-there}

texts-then : (vs : List BorrowedValue) (v : BorrowedValue) (ss : List Text) (s : Text) → texts_in name_in (items_view vs) ≡ Some ss → name_in (borrowed_view v) ≡ Some s → texts_in name_in (items_view (vs ++ v ∷ [])) ≡ Some (ss ++ s ∷ [])
texts-then [] v ss s before_it this = let none : ss ≡ [] = cc in rw this (ap (λ r. Some (r ++ s ∷ [])) (sym none))
texts-then (w ∷ vs) v ss s before_it this = one_more (name_in (borrowed_view w)) (texts_in name_in (items_view vs)) refl before_it (λ rest h. texts-then vs v rest s h this)
  where
    one_more : (o : Option Text) (rest : Option (List Text)) → rest ≡ texts_in name_in (items_view vs) → option_and_then (λ x. option_and_then (λ xs. Some (x ∷ xs)) rest) o ≡ Some ss → ((xs : List Text) → texts_in name_in (items_view vs) ≡ Some xs → texts_in name_in (items_view (vs ++ v ∷ [])) ≡ Some (xs ++ s ∷ [])) → option_and_then (λ x. option_and_then (λ xs. Some (x ∷ xs)) (texts_in name_in (items_view (vs ++ v ∷ [])))) o ≡ Some (ss ++ s ∷ [])
    one_more None rest is h later = cc
    one_more (Some x) None is h later = cc
    one_more (Some x) (Some xs) is h later = let same : x ∷ xs ≡ ss = cc in rw (later xs (sym is)) (ap (λ r. Some (r ++ s ∷ [])) same)

map-then : {A B : Type 0} (f : A → B) (xs : List A) (x : A) → map f (xs ++ x ∷ []) ≡ map f xs ++ f x ∷ []
map-then f [] x = refl
map-then f (y ∷ xs) x = ap (λ r. f y ∷ r) (map-then f xs x)

-- a turn of the loop over names
pub names-turn : (vs : List BorrowedValue) (i : ℕ) (v : BorrowedValue) (xs grown : List (String Global)) (x : String Global) → i < length vs → v ≡ get_or vs i v → grown ≡ xs ++ x ∷ [] → texts_in name_in (items_view (take i vs)) ≡ Some (map string_bytes xs) → name_in (borrowed_view v) ≡ Some (string_bytes x) → texts_in name_in (items_view (take (i + 1) vs)) ≡ Some (map string_bytes grown)
names-turn vs i v xs grown x within here is earlier this =
    let longer : take (i + 1) vs ≡ take i vs ++ v ∷ [] = take_more vs i v within ∙ ap (λ w. take i vs ++ w ∷ []) (sym here) in
    ap (λ ws. texts_in name_in (items_view ws)) longer ∙ texts-then (take i vs) v (map string_bytes xs) (string_bytes x) earlier this ∙ ap Some (sym (map-then string_bytes xs x)) ∙ ap (λ ys. Some (map string_bytes ys)) (sym is)

pub names-whole : {spans : Bool} (d : Data) (vs : List BorrowedValue) (i : ℕ) (xs : List (String Global)) (names : List Text) → as_array d ≡ Some (items_view vs) → length vs ≤ i → texts_in name_in (items_view (take i vs)) ≡ Some (map string_bytes xs) → Reads spans (leaf some_names) d (leaf_tree (texts (map string_bytes xs))) names names
names-whole {spans} d vs i xs names is all inside =
    let found : list_in name_in d ≡ Some (map string_bytes xs) = ap (option_and_then (texts_in name_in)) is ∙ ap (λ ws. texts_in name_in (items_view ws)) (sym (take_all i vs all)) ∙ inside in
    leaf-reads (list_in name_in) some_names texts d (map string_bytes xs) (texts (map string_bytes xs)) names (λ v. refl) (plain-texts (map string_bytes xs)) found

-- a name that is wrong
pub name-under : (spans : Bool) (i : ℕ) (d v : Data) (inside outside : error.Error) → at i d ≡ Some v → LocatesHere (name_in v) inside → IsUnderPart (index i) inside outside → Locates spans (leaf some_names) d outside
name-under spans i d v inside outside found h u =
    further (index i) (λ place. (place ≡ []) × (name_in v ≡ None)) (IsBroken (whole_form spans) (leaf some_names) d) inside outside
    (λ place w. (index i ∷ [], ap (λ p. (47 ∷ part_text (index i)) ++ p) w.0, (v, found, ap (option_map text) w.1))) h u

-- ---- what is noted of a list of names

module _ (vs : List BorrowedValue) where
  -- the names before i
  pub record NotesNames (i : ℕ) (xs : List (String Global)) (s e : Reader) : Type 0 where
    pub noted : Notes (λ _ old new. (new ≡ old) × (texts_in name_in (items_view (take i vs)) ≡ Some (map string_bytes xs))) (λ spans. Locates spans (leaf some_names) (listed_value vs)) s e

module _ {vs : List BorrowedValue} where
  pub no_names : {xs : List (String Global)} {r s e : Reader} → r ≡ s → xs ≡ [] → Notes (λ _ old new. new ≡ old) (λ _ x. x ≡ error.Memory) r e → NotesNames vs 0 xs s e
  no_names {xs} {r} {s} {e} same empty n = record {
    noted = weaker {Q = λ _ old new. (new ≡ old) × (texts_in name_in (items_view (take 0 vs)) ≡ Some (map string_bytes xs))}
        (λ a b is. (is, ap (λ l. Some (map string_bytes l)) (sym empty))) (λ x is. memory (IsBroken (whole_form s.spans) (leaf some_names) (listed_value vs)) x is) (subst (λ z. Notes (λ _ old new. new ≡ old) (λ _ x. x ≡ error.Memory) z e) same n);
  }

  pub one_name : {i : ℕ} {v : BorrowedValue} (x : String Global) {xs ys : List (String Global)} {s a b e : Reader} → i < length vs → v ≡ get_or vs i v → NotesNames vs i xs s a → a.fault ≡ None → NotesText kinds.Name (borrowed_view v) x a b → (e.fault ≡ None → ys ≡ xs ++ x ∷ []) → IsToldOrRefused (index i) b e → NotesNames vs (i + 1) ys s e
  one_name {i} {v} x {xs} {ys} {s} within here so clear_is one grown put = record {
    noted = next_item
        {P = λ _ old new. (new ≡ old) × (texts_in name_in (items_view (take i vs)) ≡ Some (map string_bytes xs))} {Q = λ _ old new. (new ≡ old) × (name_in (borrowed_view v) ≡ Some (string_bytes x))} {R = λ _ old new. (new ≡ old) × (texts_in name_in (items_view (take (i + 1) vs)) ≡ Some (map string_bytes ys))}
        (λ h a b c earlier this. (this.0 ∙ earlier.0, names-turn vs i v xs ys x within here (grown h) earlier.1 this.1))
        (λ y o bad u. name-under s.spans i (listed_value vs) (borrowed_view v) y o (item-at (listed_value vs) vs i v refl within here) bad u)
        (λ y is. memory (IsBroken (whole_form s.spans) (leaf some_names) (listed_value vs)) y is)
        so.noted clear_is one put;
  }

  pub names_stopped : {i j : ℕ} {xs : List (String Global)} {s e : Reader} → is_some e.fault ≡ true → NotesNames vs i xs s e → NotesNames vs j xs s e
  names_stopped noted_is so = record { noted = voided noted_is so.noted }

  pub all_names : {ws : List BorrowedValue} {k : Text} {d : Data} {i : ℕ} {xs : List (String Global)} {s b e : Reader} → vs ≡ ws → IsList s k d (items_view ws) → length vs ≤ i → NotesNames vs i xs s b → IsTold (key k) b e → NotesMany k (leaf some_names) d (leaf_tree (texts (map string_bytes xs))) s e
  all_names {ws} {k} {d} {i} {xs} {s} are list all so told =
      let found : get k d ≡ Some (listed_value vs) = list.found ∙ ap (λ zs. Some (listed_value zs)) (sym are) in
      part_of {P = λ _ old new. (new ≡ old) × (texts_in name_in (items_view (take i vs)) ≡ Some (map string_bytes xs))} {T = λ spans. Locates spans (leaf some_names) (listed_value vs)}
      (λ x y h. many-there k (leaf some_names) d (listed_value vs) (leaf_tree (texts (map string_bytes xs))) x y found (subst (λ z. Reads s.spans (leaf some_names) (listed_value vs) (leaf_tree (texts (map string_bytes xs))) x z) (sym h.0) (names-whole (listed_value vs) vs i xs x refl all h.1)))
      (λ y o h u. inside-under s.spans k (leaf some_names) d (listed_value vs) y o found h u) list.clear so.noted told

names-absent : (spans : Bool) (k : Text) (d : Data) (a : List Text) → get k d ≡ None → ReadsMany spans k (leaf some_names) d (leaf_tree (texts [])) a a
names-absent spans k d a none = record {
  member = over (λ n. Some end) (λ n. or_empty (texts []) (reading (whole_form spans) n (leaf some_names)) (get k d)) (depth d) (texts []) (texts []) end a a (plain-texts []) (λ n us low e. ap (or_empty (texts []) (reading (whole_form spans) n (leaf some_names))) none ∙ ap (λ cs. Some (record { label = texts []; children = cs })) (cc)) (none-read (λ n. Some end) (depth d) a (λ n. refl));
}

pub no_name_list : {k : Text} {d : Data} {xs : List (String Global)} {s e : Reader} → xs ≡ [] → NotesNoList k d s e → NotesMany k (leaf some_names) d (leaf_tree (texts (map string_bytes xs))) s e
no_name_list {k} {d} {xs} {s} empty n = weaker {Q = λ spans. ReadsMany spans k (leaf some_names) d (leaf_tree (texts (map string_bytes xs)))}
    (λ a b is. subst (λ l. ReadsMany s.spans k (leaf some_names) d (leaf_tree (texts (map string_bytes l))) a b) (sym empty) (subst (λ z. ReadsMany s.spans k (leaf some_names) d (leaf_tree (texts [])) a z) (sym is.0) (names-absent s.spans k d a is.1)))
    (λ x h. IfPlace-more (IsNoList k d) (IsInside s.spans k (leaf some_names) d) x (λ place w. (w.0, [], w.1, w.3, w.2)) h) n
