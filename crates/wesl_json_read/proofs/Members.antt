-- What is read of one member, of a node, and of a value that is no object.
use Rattle.std.proofs.Common.{◌≡◌, ◌⊎◌, ◌&&◌, nat_lt, ℕ, suc, zero, ◌+◌, ◌<◌, ◌≤◌, List, [], ◌∷◌, ◌++◌, Bool, true, length, get_or, slice_get, Option, Some, None, if◌then◌else◌, option_map, option_and_then, codes, refl, sym, ap, ◌∙◌, inl, inr, ⊎_elim, append-nil, length-append, arith}
use Rattle.std.specs.Option.{is_some}
use Rattle.std.proofs.lemmas.Bool.Decides.{nat_tests}
use Rattle.std.proofs.lemmas.Slice.Eq.{bytes_eq-Decides}
use Rattle.serde_json.specs.Data.{Data, depth}
use Rattle.serde_json.specs.Find.{get, as_object, as_str}
use Rattle.wesl_tree_names.specs.Path.{Text}
use Rattle.wesl_tree_syntax.specs.Tree.{Kind, Role, reference, Label, kind, ident, Tree, Forest, end, before, leaf as leaf_tree, branch, present, absent, type_expression}
use Rattle.wesl_tree_syntax.specs.Unit.{name_in}
use Rattle.wesl_json_form.specs.Schema.{Spelled, SpelledForest, SpelledLabel, leaf_of, look, Form, leaf, list_of, node, an_ident, Name, chosen, Node}
use Rattle.wesl_json_form.specs.Reading.{reading, name_in as name_of, word_in, needed, optional, or_empty, empty_of, children_in, node_in, label_in, known_keys}
use Rattle.wesl_json_form.specs.Keys.{has_only}
use Rattle.wesl_json_form.specs.Units.{NumberedFrom}
use Rattle.wesl_json_form.specs.Nodes.{whole_form, nodes_of}
use Rattle.wesl_json_read.specs.Forms.{HasWord}
use Rattle.wesl_json_read.specs.Numbers.{Begins, IsNumbered, IsReadAs, AreReadAs, ReadsForm, ReadsMember, ReadsOptional, ReadsList, ReadsRow, ReadsPlain}
use Rattle.wesl_json_form.proofs.Depths.{get-depth}
use Rattle.wesl_json_read.proofs.Rows.{IsPlain, plain-kind, over, none-read}
use Rattle.wesl_json_read.proofs.Lists.{one-up}

-- ---- names

Begins-number : (old new : List Text) (s : Text) (i : ℕ) → IsNumbered old s i new → Begins old new
Begins-number old new s i h = ⊎_elim (λ e. ([], e.0 ∙ sym (append-nil old))) (λ e. (s ∷ [], e.0)) h.grows

numbered-case : (old new : List Text) (s : Text) (i : ℕ) → (new ≡ old) × (i < length old) ⊎ (new ≡ old ++ s ∷ []) × (i ≡ length old) → NumberedFrom (length old) (i ∷ []) (length new)
numbered-case old new s i (inl e) = inl (e.1, ap length e.0)
numbered-case old new s i (inr e) = inr (e.1, ap length e.0 ∙ length-append old (s ∷ []))

number-below : (old new : List Text) (s : Text) (i n : ℕ) → (new ≡ old) × (i < length old) ⊎ (new ≡ old ++ s ∷ []) × (i ≡ length old) → length new ≤ n → nat_lt i n ≡ true
number-below old new s i n (inl e) low = let same : length new ≡ length old = ap length e.0 in let less : i < n = omega arith in grind (arith, nat_tests)
number-below old new s i n (inr e) low = let grown : length new ≡ length old + 1 = ap length e.0 ∙ length-append old (s ∷ []) in let less : i < n = omega arith in grind (arith, nat_tests)

name-begin : (xs ys : List Text) (i : ℕ) (s : Text) → slice_get xs i ≡ Some s → get_or (xs ++ ys) i [] ≡ s
name-begin [] ys i s h = cc
name-begin (x ∷ xs) ys zero s h = cc
name-begin (x ∷ xs) ys (suc i) s h = name-begin xs ys i s h

pub name-later : (new names : List Text) (i : ℕ) (s : Text) → slice_get new i ≡ Some s → Begins new names → name_in names i ≡ s
name-later new names i s named later = ap (λ ns. get_or ns i []) later.1 ∙ name-begin new later.0 i s named

module _ (spans : Bool) where
  -- ---- members that are trees

  pub member-form : (k : Text) (f : Form) (d e : Data) (t : Tree) (a b : List Text) → get k d ≡ Some e → ReadsForm spans f e t a b → ReadsMember spans k f d t a b
  member-form k f d e t a b found h =
      let below = get-depth k d e found in
      record {
        spelled = λ n names low later. ap (needed (reading (whole_form spans) n f)) found ∙ h.spelled n names (omega arith) later;
        numbered = h.numbered;
        closed = h.closed;
        begins = h.begins;
      }

present-step : (o : Option Spelled) (us : SpelledForest) → option_map (λ u. before u end) o ≡ Some us → option_map {U = Spelled} (λ t. record { label = kind present; children = before t end }) o ≡ Some (record { label = kind present; children = us })
present-step None us h = cc
present-step (Some u) us h = let same : before u end ≡ us = cc in ap (λ cs. Some (record { label = kind present; children = cs })) same

module _ (spans : Bool) where
  pub member-present : (k : Text) (f : Form) (d e : Data) (t : Tree) (a b : List Text) → get k d ≡ Some e → ReadsForm spans f e t a b → ReadsOptional spans k f d (branch present (t ∷ [])) a b
  member-present k f d e t a b found h =
      let below = get-depth k d e found in
      let read = λ (n : ℕ). reading (whole_form spans) n f e in
      let children : AreReadAs (λ n. option_map (λ u. before u end) (read n)) (depth d) (before t end) a b = record {
        spelled = λ n names low later. ap (option_map (λ u. before u end)) (h.spelled n names (omega arith) later);
        numbered = h.numbered;
        closed = h.closed;
        begins = h.begins;
      } in
      over (λ n. option_map (λ u. before u end) (read n)) (λ n. optional (reading (whole_form spans) n f) (get k d)) (depth d) (kind present) (kind present) (before t end) a b (plain-kind present) (λ n us low is. ap (optional (reading (whole_form spans) n f)) found ∙ present-step (read n) us is) children

  pub member-absent : (k : Text) (f : Form) (d : Data) (a : List Text) → get k d ≡ None → ReadsOptional spans k f d (leaf_tree (kind absent)) a a
  member-absent k f d a none =
      over (λ n. Some end) (λ n. optional (reading (whole_form spans) n f) (get k d)) (depth d) (kind absent) (kind absent) end a a (plain-kind absent) (λ n us low e. ap (optional (reading (whole_form spans) n f)) none ∙ ap (λ cs. Some (record { label = kind absent; children = cs })) (cc)) (none-read (λ n. Some end) (depth d) a (λ n. refl))

-- ---- words

own-word : (w : Text) → look {A = SpelledLabel} ((w, kind present) ∷ []) w ≡ Some (kind present)
own-word w = ap (λ b. if b then Some (kind present) else None) ((bytes_eq-Decides w w).1 refl)

word-case : (w : Text) (o : Option Data) → option_and_then as_str o ≡ Some w → option_and_then (word_in ((w, kind present) ∷ [])) o ≡ Some (kind present)
word-case w None h = cc
word-case w (Some e) h = ap (option_and_then (look ((w, kind present) ∷ []))) h ∙ own-word w

pub word-label : (w : Text) (d : Data) → HasWord w d → label_in (chosen (codes "k") ((w, kind present) ∷ [])) d ≡ Some (kind present)
word-label w d h = word-case w (get (codes "k") d) h

-- ---- nodes

module _ (spans : Bool) where
  -- an object is read as the node
  abbrev pub ReadsNode : Node → Data → Tree → List Text → List Text → Type 0
  ReadsNode nd d = IsReadAs (λ n. node_in (reading (whole_form spans) n) d nd) (depth d)

  -- an object is read by its members
  pub node-of-row : (nd : Node) (d : Data) (l : Label) (s : SpelledLabel) (ts : Forest) (a b : List Text) → IsPlain l s → label_in nd.head d ≡ Some s → has_only (known_keys nd.row d) d ≡ true → ReadsRow spans nd.row d ts a b → ReadsNode nd d (record { label = l; children = ts }) a b
  node-of-row nd d l s ts a b plain head known h =
      over (λ n. children_in (reading (whole_form spans) n) nd.row d) (λ n. node_in (reading (whole_form spans) n) d nd) (depth d) l s ts a b plain (λ n us low is. rw (known, head, is)) h

  -- one level up
  pub form-of-node : (m : Name) (nd : Node) (d : Data) (t : Tree) (a b : List Text) → is_some (as_object d) ≡ true → nodes_of spans m d ≡ Some nd → ReadsNode nd d t a b → ReadsForm spans (node m) d t a b
  form-of-node m nd d t a b object_like is h = one-up spans (node m) d t a b (record {
    spelled = λ n names low later. rw (object_like, is) (h.spelled n names low later);
    numbered = h.numbered;
    closed = h.closed;
    begins = h.begins;
  })

-- ---- types and expressions

abbrev pub plain_type : ℕ → Tree
plain_type i = branch type_expression (leaf_tree (kind absent) ∷ leaf_tree (ident reference i) ∷ leaf_tree (kind absent) ∷ [])

pub plain-type : (d : Data) (s : Text) (i : ℕ) (old new : List Text) → name_of d ≡ Some s → IsNumbered old s i new → ReadsPlain d (plain_type i) old new
plain-type d s i old new h num = record {
  plain = record {
    spelled = λ n names low later. ap (option_map (λ x. branch type_expression (leaf_of (kind absent) ∷ leaf_of (ident reference x) ∷ leaf_of (kind absent) ∷ []))) (h ∙ ap Some (sym (name-later new names i s num.named later)));
    numbered = numbered-case old new s i num.grows;
    closed = λ n low. ap (λ x. (true && ((true && true) && ((x && true) && ((true && true) && true)))) && true) (number-below old new s i n num.grows low);
    begins = Begins-number old new s i num;
  };
}

module _ (spans : Bool) where
  -- ---- lists and names by themselves

  pub list-there : (k : Text) (f : Form) (d e : Data) (t : Tree) (a b : List Text) → get k d ≡ Some e → ReadsForm spans f e t a b → ReadsList spans k f d t a b
  list-there k f d e t a b found h =
      let below = get-depth k d e found in
      record {
        spelled = λ n names low later. ap (or_empty (empty_of f) (reading (whole_form spans) n f)) found ∙ h.spelled n names (omega arith) later;
        numbered = h.numbered;
        closed = h.closed;
        begins = h.begins;
      }

  pub list-absent : (k : Text) (kd : Kind) (m : Name) (d : Data) (a : List Text) → get k d ≡ None → ReadsList spans k (list_of kd m) d (leaf_tree (kind kd)) a a
  list-absent k kd m d a none =
      over (λ n. Some end) (λ n. or_empty (kind kd) (reading (whole_form spans) n (list_of kd m)) (get k d)) (depth d) (kind kd) (kind kd) end a a (plain-kind kd) (λ n us low e. ap (or_empty (kind kd) (reading (whole_form spans) n (list_of kd m))) none ∙ ap (λ cs. Some (record { label = kind kd; children = cs })) (cc)) (none-read (λ n. Some end) (depth d) a (λ n. refl))

  pub form-ident : (r : Role) (e : Data) (s : Text) (i : ℕ) (old new : List Text) → name_of e ≡ Some s → IsNumbered old s i new → ReadsForm spans (leaf (an_ident r)) e (leaf_tree (ident r i)) old new
  form-ident r e s i old new h num = one-up spans (leaf (an_ident r)) e (leaf_tree (ident r i)) old new (record {
    spelled = λ n names low later. ap (λ o. option_map leaf_of (option_map (ident r) o)) h ∙ ap (λ x. Some (leaf_of (ident r x))) (sym (name-later new names i s num.named later));
    numbered = numbered-case old new s i num.grows;
    closed = λ n low. ap (λ x. (x && true) && true) (number-below old new s i n num.grows low);
    begins = Begins-number old new s i num;
  })
