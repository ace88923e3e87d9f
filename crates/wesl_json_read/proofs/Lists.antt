-- What is read of a list, item by item.
use Rattle.std.proofs.Common.{◌≡◌, ◌&&◌, Bool, true, ℕ, suc, zero, ◌+◌, ◌<◌, ◌≤◌, List, [], ◌∷◌, ◌++◌, length, get_or, map, take, Option, Some, None, option_map, option_and_then, refl, sym, ap, ◌∙◌, subst, append_assoc, arith}
use Rattle.std.proofs.lemmas.List.{take_more, take_all}
use Rattle.serde_json.specs.Data.{Data, depth}
use Rattle.serde_json.specs.Find.{as_array}
use Rattle.wesl_json_form.specs.View.{borrowed_view, items_view}
use Rattle.wesl_json_form.specs.declared.value.BorrowedValue.{BorrowedValue}
use Rattle.wesl_tree_names.specs.Path.{Text}
use Rattle.wesl_tree_syntax.specs.Tree.{Kind, kind, Tree, end, tree, before, forest_of, branch, identifiers, label_below, forest_below}
use Rattle.wesl_tree_syntax.specs.Unit.{name_in}
use Rattle.wesl_tree_syntax.specs.Shown.{shown, shown_forest}
use Rattle.wesl_json_form.specs.Schema.{Spelled, Form, SpelledForest, Name, list_of, node}
use Rattle.wesl_json_form.specs.Reading.{reading, items_in}
use Rattle.wesl_json_form.specs.Units.{NumberedFrom}
use Rattle.wesl_json_form.specs.Nodes.{whole_form}
use Rattle.wesl_json_read.specs.Numbers.{IsReadAs, AreReadAs, ReadsForm}
use Rattle.wesl_json_read.proofs.Rows.{over, plain-kind, Begins-then, Begins-length, NumberedFrom-append, identifiers-before, none-read}
use Rattle.std.proofs.lemmas.Bool.{and_parts}

-- a tree at the end
abbrev pub then_tree : SpelledForest → Spelled → SpelledForest
then_tree end u = before u end
then_tree (tree l c others) u = tree l c (then_tree others u)

first_of : (one : Option Spelled) (rest : Option SpelledForest) (us : SpelledForest) → option_and_then (λ x. option_and_then (λ xs. Some (before x xs)) rest) one ≡ Some us → (x : Spelled) × (xs : SpelledForest) × (one ≡ Some x) × (rest ≡ Some xs) × (us ≡ before x xs)
first_of None rest us h = cc
first_of (Some x) None us h = cc
first_of (Some x) (Some xs) us h = (x, xs, refl, refl, cc)

items-then : (read : Data → Option Spelled) (vs : List BorrowedValue) (v : BorrowedValue) (us : SpelledForest) (u : Spelled) → items_in read (items_view vs) ≡ Some us → read (borrowed_view v) ≡ Some u → items_in read (items_view (vs ++ v ∷ [])) ≡ Some (then_tree us u)
items-then read [] v us u before_it this =
    let none : us ≡ end = cc in
    rw this (ap (λ r. Some (then_tree r u)) (sym none))
items-then read (w ∷ vs) v us u before_it this =
    let f = first_of (read (borrowed_view w)) (items_in read (items_view vs)) us before_it in
    let one = f.2 in
    rw one (rw (items-then read vs v f.1 u f.3 this) (ap (λ r. Some (then_tree r u)) (sym f.4)))

shown-then : (f : ℕ → Text) (ts : List Tree) (t : Tree) → shown_forest true f (forest_of (ts ++ t ∷ [])) ≡ then_tree (shown_forest true f (forest_of ts)) (shown true f t)
shown-then f [] t = refl
shown-then f (x ∷ ts) t = ap (before (shown true f x)) (shown-then f ts t)

identifiers-then : (ts : List Tree) (t : Tree) → identifiers (forest_of (ts ++ t ∷ [])) ≡ identifiers (forest_of ts) ++ identifiers (before t end)
identifiers-then [] t = refl
identifiers-then (x ∷ ts) t =
    identifiers-before x (forest_of (ts ++ t ∷ [])) ∙ ap (λ r. identifiers (before x end) ++ r) (identifiers-then ts t)
    ∙ sym (append_assoc (identifiers (before x end)) (identifiers (forest_of ts)) (identifiers (before t end)))
    ∙ ap (λ r. r ++ identifiers (before t end)) (sym (identifiers-before x (forest_of ts)))

closed-then : (n : ℕ) (ts : List Tree) (t : Tree) → forest_below n (forest_of ts) ≡ true → forest_below n (before t end) ≡ true → forest_below n (forest_of (ts ++ t ∷ [])) ≡ true
closed-then n [] t all one = one
closed-then n (x ∷ ts) t all one =
    let both = and_parts (label_below n x.label && forest_below n x.children) (forest_below n (forest_of ts)) all in
    ap (λ y. y && forest_below n (forest_of (ts ++ t ∷ []))) both.0 ∙ closed-then n ts t both.1 one

module _ (spans : Bool) where
  abbrev pub items_read : Name → List BorrowedValue → ℕ → Option SpelledForest
  items_read m vs n = items_in (reading (whole_form spans) n (node m)) (items_view vs)

  -- one item more
  items-item : (m : Name) (vs : List BorrowedValue) (v : BorrowedValue) (least : ℕ) (a b c : List Text) (ts : List Tree) (t : Tree) → depth (borrowed_view v) < least → AreReadAs (items_read m vs) least (forest_of ts) a b → ReadsForm spans (node m) (borrowed_view v) t b c → AreReadAs (items_read m (vs ++ v ∷ [])) least (forest_of (ts ++ t ∷ [])) a c
  items-item m vs v least a b c ts t below earlier this = record {
    spelled = λ n names low later. items-then (reading (whole_form spans) n (node m)) vs v _ _ (earlier.spelled n names low (Begins-then b c names this.begins later)) (this.spelled n names (omega arith) later) ∙ ap Some (sym (shown-then (name_in names) ts t));
    numbered = subst (λ is. NumberedFrom (length a) is (length c)) (sym (identifiers-then ts t)) (NumberedFrom-append _ _ _ (identifiers (forest_of ts)) (identifiers (before t end)) earlier.numbered this.numbered);
    closed = λ n low. closed-then n ts t (earlier.closed n (let longer = Begins-length b c this.begins in omega arith)) (this.closed n low);
    begins = Begins-then a b c earlier.begins this.begins;
  }

map-then : {A : Type 0} (f : A → Tree) (xs : List A) (x : A) → map f (xs ++ x ∷ []) ≡ map f xs ++ f x ∷ []
map-then f [] x = refl
map-then f (y ∷ xs) x = ap (λ r. f y ∷ r) (map-then f xs x)

module _ (spans : Bool) where
  -- a turn of the loop over a list
  pub items-turn : {A : Type 0} (f : A → Tree) (m : Name) (vs : List BorrowedValue) (i : ℕ) (v : BorrowedValue) (least : ℕ) (a b c : List Text) (xs grown : List A) (x : A) → i < length vs → v ≡ get_or vs i v → grown ≡ xs ++ x ∷ [] → depth (borrowed_view v) < least → AreReadAs (items_read spans m (take i vs)) least (forest_of (map f xs)) a b → ReadsForm spans (node m) (borrowed_view v) (f x) b c → AreReadAs (items_read spans m (take (i + 1) vs)) least (forest_of (map f grown)) a c
  items-turn f m vs i v least a b c xs grown x within here is below earlier this =
      let longer : take (i + 1) vs ≡ take i vs ++ v ∷ [] = take_more vs i v within ∙ ap (λ w. take i vs ++ w ∷ []) (sym here) in
      let all : map f grown ≡ map f xs ++ f x ∷ [] = ap (map f) is ∙ map-then f xs x in
      subst (λ us. AreReadAs (items_read spans m (take (i + 1) vs)) least (forest_of us) a c) (sym all) (subst (λ ws. AreReadAs (items_read spans m ws) least (forest_of (map f xs ++ f x ∷ [])) a c) (sym longer) (items-item spans m (take i vs) v least a b c (map f xs) (f x) below earlier this))

  -- before the first turn
  pub items-none : (m : Name) (vs : List BorrowedValue) (least : ℕ) (a : List Text) → AreReadAs (items_read spans m (take 0 vs)) least end a a
  items-none m vs least a = none-read (items_read spans m (take 0 vs)) least a (λ n. refl)

  list-level : (kd : Kind) (m : Name) (d : Data) (vs : List BorrowedValue) (us : SpelledForest) (n : ℕ) → as_array d ≡ Some (items_view vs) → items_read spans m vs n ≡ Some us → reading (whole_form spans) (suc n) (list_of kd m) d ≡ Some (record { label = kind kd; children = us })
  list-level kd m d vs us n is h = ap (λ o. option_map (λ ts. record { label = kind kd; children = ts }) (option_and_then (items_in (reading (whole_form spans) n (node m))) o)) is ∙ ap (option_map (λ ts. record { label = kind kd; children = ts })) h

  one-up-at : (f : Form) (d : Data) (names : List Text) (t : Tree) (n : ℕ) → suc (depth d) ≤ n → ((k : ℕ) → depth d ≤ k → reading (whole_form spans) (suc k) f d ≡ Some (shown true (name_in names) t)) → reading (whole_form spans) n f d ≡ Some (shown true (name_in names) t)
  one-up-at f d names t zero low h = absurd (omega arith)
  one-up-at f d names t (suc k) low h = h k (omega arith)

  -- a reading at one level less
  pub one-up : (f : Form) (d : Data) (t : Tree) (a b : List Text) → IsReadAs (λ n. reading (whole_form spans) (suc n) f d) (depth d) t a b → ReadsForm spans f d t a b
  one-up f d t a b h = record {
    spelled = λ n names low later. one-up-at f d names t n low (λ k high. h.spelled k names high later);
    numbered = h.numbered;
    closed = h.closed;
    begins = h.begins;
  }

  -- the loop's end
  pub items-whole : (kd : Kind) (m : Name) (d : Data) (vs : List BorrowedValue) (i : ℕ) (a b : List Text) (ts : List Tree) → as_array d ≡ Some (items_view vs) → length vs ≤ i → AreReadAs (items_read spans m (take i vs)) (depth d) (forest_of ts) a b → ReadsForm spans (list_of kd m) d (branch kd ts) a b
  items-whole kd m d vs i a b ts is all inside =
      let whole : AreReadAs (items_read spans m vs) (depth d) (forest_of ts) a b = subst (λ ws. AreReadAs (items_read spans m ws) (depth d) (forest_of ts) a b) (take_all i vs all) inside in
      let at_level = over (items_read spans m vs) (λ n. reading (whole_form spans) (suc n) (list_of kd m) d) (depth d) (kind kd) (kind kd) (forest_of ts) a b (plain-kind kd) (λ n us low h. list-level kd m d vs us n is h) whole in
      one-up (list_of kd m) d (branch kd ts) a b at_level
