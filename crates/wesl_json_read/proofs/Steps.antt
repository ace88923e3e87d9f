-- What is read of an object, step by step.
use Rattle.std.proofs.Common.{◌≡◌, suc, List, [], ◌∷◌, Bool, true, Option, Some, None, option_map, option_and_then, codes, refl, ap, ◌∙◌, subst}
use Rattle.std.specs.Option.{is_some}
use Rattle.serde_json.specs.Data.{Data, null, boolean, number, string, array, object}
use Rattle.serde_json.specs.Find.{get, as_object, as_str}
use Rattle.wesl_tree_names.specs.Path.{Text}
use Rattle.wesl_tree_syntax.specs.Tree.{Kind, Label, Tree, Forest, kind, end, tree, before, leaf as leaf_tree, present, absent, branch}
use Rattle.wesl_json_form.specs.Schema.{SpelledLabel, leaf_of, look, Form, leaf, list_of, Leaf, Name, Head, Row, nothing, needs, may, many, inner, Node}
use Rattle.wesl_json_form.specs.Nodes.{whole_form, by_word, NodeWords}
use Rattle.wesl_json_form.specs.Reading.{reading, leaf_label, label_in}
use Rattle.wesl_json_form.specs.Keys.{has_only}
use Rattle.wesl_json_read.specs.Forms.{HasWord}
use Rattle.wesl_json_read.specs.Numbers.{Reads, ReadsNeeded, ReadsMay, ReadsMany, ReadsRows}
use Rattle.wesl_json_read.proofs.Places.{get-object}
use Rattle.wesl_json_read.proofs.Lists.{one-up}
use Rattle.wesl_json_read.proofs.Rows.{IsPlain, row-nothing, row-needs, row-may, row-many, row-inner, over, none-read}
use Rattle.wesl_json_read.proofs.Members.{member-form, member-present, member-absent, list-there, list-absent}

-- ---- members

module _ {spans : Bool} where
  pub none-then : (d : Data) (a : List Text) → ReadsRows spans nothing d end a a
  none-then d a = record { row_is = row-nothing spans d a }

  pub needs-then : {k : Text} {f : Form} {row : Row} {d : Data} {t : Tree} {ts : Forest} {a b c : List Text} → ReadsNeeded spans k f d t a b → ReadsRows spans row d ts b c → ReadsRows spans (needs k f row) d (before t ts) a c
  needs-then {k} {f} {row} {d} {t} {ts} {a} {b} {c} m r = record { row_is = row-needs spans d k f row t ts a b c m.member r.row_is }

  pub may-then : {k : Text} {f : Form} {row : Row} {d : Data} {t : Tree} {ts : Forest} {a b c : List Text} → ReadsMay spans k f d t a b → ReadsRows spans row d ts b c → ReadsRows spans (may k f row) d (before t ts) a c
  may-then {k} {f} {row} {d} {t} {ts} {a} {b} {c} m r = record { row_is = row-may spans d k f row t ts a b c m.member r.row_is }

  pub many-then : {k : Text} {f : Form} {row : Row} {d : Data} {t : Tree} {ts : Forest} {a b c : List Text} → ReadsMany spans k f d t a b → ReadsRows spans row d ts b c → ReadsRows spans (many k f row) d (before t ts) a c
  many-then {k} {f} {row} {d} {t} {ts} {a} {b} {c} m r = record { row_is = row-many spans d k f row t ts a b c m.member r.row_is }

  pub inner-then : {h : Head} {ins row : Row} {d : Data} {l : Label} {s : SpelledLabel} {is ts : Forest} {a b c : List Text} → IsPlain l s → label_in h d ≡ Some s → ReadsRows spans ins d is a b → ReadsRows spans row d ts b c → ReadsRows spans (inner h ins row) d (tree l is ts) a c
  inner-then {h} {ins} {row} {d} {l} {s} {is} {ts} {a} {b} {c} plain labelled i r = record { row_is = row-inner spans d h ins row l s is ts a b c plain labelled i.row_is r.row_is }

  -- a leaf by itself
  pub leaf-reads : {A : Type 0} (read : Data → Option A) (l : Leaf) (g : A → SpelledLabel) (v : Data) (x : A) (lab : Label) (a : List Text) → ((u : Data) → leaf_label l u ≡ option_map g (read u)) → IsPlain lab (g x) → read v ≡ Some x → Reads spans (leaf l) v (leaf_tree lab) a a
  leaf-reads read l g v x lab a agree plain h =
      let label : leaf_label l v ≡ Some (g x) = agree v ∙ ap (option_map g) h in
      record { form = one-up spans (leaf l) v (leaf_tree lab) a a (over (λ n. Some end) (λ n. reading (whole_form spans) (suc n) (leaf l) v) _ lab (g x) end a a plain (λ n us low e. ap (option_map leaf_of) label ∙ ap (λ cs. Some (record { label = g x; children = cs })) (cc)) (none-read (λ n. Some end) _ a (λ n. refl))) }

  pub needed-there : (k : Text) (f : Form) (d e : Data) (t : Tree) (a b : List Text) → get k d ≡ Some e → Reads spans f e t a b → ReadsNeeded spans k f d t a b
  needed-there k f d e t a b found h = record { member = member-form spans k f d e t a b found h.form }

  pub may-there : (k : Text) (f : Form) (d e : Data) (t : Tree) (a b : List Text) → get k d ≡ Some e → Reads spans f e t a b → ReadsMay spans k f d (branch present (t ∷ [])) a b
  may-there k f d e t a b found h = record { member = member-present spans k f d e t a b found h.form }

  pub may-absent : (k : Text) (f : Form) (d : Data) (a : List Text) → get k d ≡ None → ReadsMay spans k f d (leaf_tree (kind absent)) a a
  may-absent k f d a none = record { member = member-absent spans k f d a none }

  pub many-there : (k : Text) (f : Form) (d e : Data) (t : Tree) (a b : List Text) → get k d ≡ Some e → Reads spans f e t a b → ReadsMany spans k f d t a b
  many-there k f d e t a b found h = record { member = list-there spans k f d e t a b found h.form }

  pub many-absent : (k : Text) (kd : Kind) (m : Name) (d : Data) (a : List Text) → get k d ≡ None → ReadsMany spans k (list_of kd m) d (leaf_tree (kind kd)) a a
  many-absent k kd m d a none = record { member = list-absent spans k kd m d a none }

  pub same-reads : {f : Form} {d : Data} {t u : Tree} {a b : List Text} → Reads spans f d t a b → t ≡ u → Reads spans f d u a b
  same-reads {f} {d} {t} {u} {a} {b} h e = subst (λ x. Reads spans f d x a b) e h

-- ---- objects with a word

word-object-case : (d : Data) (w : Text) (o : Option Data) → get (codes "k") d ≡ o → option_and_then as_str o ≡ Some w → is_some (as_object d) ≡ true
word-object-case d w None found h = cc
word-object-case d w (Some e) found h = get-object (codes "k") d e found

pub word-object : (d : Data) (w : Text) → HasWord w d → is_some (as_object d) ≡ true
word-object d w h = word-object-case d w (get (codes "k") d) refl h

picked-case : (words : NodeWords) (unmarked : Option Node) (w : Text) (nd : Node) (o : Option Data) → option_and_then as_str o ≡ Some w → look words w ≡ Some nd → (elim o as (λ _. Option Node) [ None ↦ unmarked | Some v ↦ option_and_then (look words) (as_str v) ]) ≡ Some nd
picked-case words unmarked w nd None h is = cc
picked-case words unmarked w nd (Some v) h is = ap (option_and_then (look words)) h ∙ is

-- the word picks its node
pub picked : (words : NodeWords) (unmarked : Option Node) (d : Data) (w : Text) (nd : Node) → HasWord w d → look words w ≡ Some nd → by_word words unmarked d ≡ Some nd
picked words unmarked d w nd h is = picked-case words unmarked w nd (get (codes "k") d) h is

-- ---- values that are no objects

pub known-object : (ks : List Text) (d : Data) → has_only ks d ≡ true → is_some (as_object d) ≡ true
known-object ks null h = cc
known-object ks (boolean b) h = cc
known-object ks (number n) h = cc
known-object ks (string s) h = cc
known-object ks (array ds) h = cc
known-object ks (object ms) h = refl
