-- The nodes and the trees of what is imported.
use Rattle.std.proofs.Common.{◌≡◌, ◌∙◌, ℕ, List, [], ◌∷◌, Bool, true, false, if◌then◌else◌, Option, Some, None, String, Vec, Global, codes, inl, inr, refl, ap, rules, sym, true≢false}
use Rattle.std.specs.Option.{is_some}
use Rattle.serde_json.specs.Data.{Data, depth}
use Rattle.serde_json.specs.Find.{get}
use Rattle.wesl_tree_names.specs.Path.{Text}
use Rattle.wesl_tree_names.specs.declared.names.Ident.{Ident}
use Rattle.wesl_tree_syntax.specs.declared.import.ImportContent.{ImportContent, the_lemmas}
use Rattle.wesl_tree_syntax.specs.declared.import.Import.{roll-Import}
use Rattle.wesl_tree_syntax.specs.Tree.{Role, Tree, leaf as leaf_tree, absent, branch, ident, word, binder, kind, list, import_item, import_collection, import_entry, present}
use Rattle.wesl_tree_syntax.specs.View.{content_view, entry_view, ident_tree, item_view, names_tree, optional}
use Rattle.wesl_json_form.specs.Nodes.{collection_node, item_node, nodes_of, whole_form}
use Rattle.wesl_json_form.specs.Reading.{needed, optional as optional_reading, reading}
use Rattle.wesl_json_form.specs.Schema.{Form, leaf, list_of, an_entry, an_ident, a_content, Row, needs, may, nothing, node_of_kind}
use Rattle.wesl_json_read.specs.Faults.{IsInside, IsMemberBroken, LocatesInside}
use Rattle.wesl_json_read.specs.Noted.{NotesIdent}
use Rattle.wesl_json_read.specs.Numbers.{IsReadAs, ReadsMay}
use Rattle.wesl_json_read.specs.declared.reader.Reader.{Reader}
use Rattle.wesl_json_read.proofs.Noting.{unchanged, weaker}
use Rattle.wesl_json_read.proofs.Places.{IfPlace-more}
use Rattle.wesl_json_read.proofs.Steps.{may-absent}
use Rattle.wesl_json_read.proofs.Wheres.{present-of}
use Rattle.wesl_json_read_unit.specs.Worded.{NotesRename}

-- whether the name of an imported item is bound where it is imported, or another one
abbrev pub item_role : Data → Role
item_role d = if is_some (get (codes "as") d) then word else binder

abbrev pub item_row : Data → Row
item_row d = needs (codes "item") (leaf (an_ident (item_role d))) (may (codes "as") (leaf (an_ident binder)) nothing)

module _ (spans : Bool) where
  pub content-collection : (d : Data) → is_some (get (codes "list") d) ≡ true → nodes_of spans a_content d ≡ Some (node_of_kind import_collection (needs (codes "list") (list_of list an_entry) nothing))
  content-collection d h = ap (λ b. Some (if b then collection_node else item_node d)) h

  pub content-item : (d : Data) → is_some (get (codes "list") d) ≡ false → nodes_of spans a_content d ≡ Some (node_of_kind import_item (item_row d))
  content-item d h = ap (λ b. Some (if b then collection_node else item_node d)) h

optional-case : (spans : Bool) (f : Form) (least : ℕ) (t : Tree) (a b : List Text) (o : Option Data) → is_some o ≡ true → IsReadAs (λ n. needed (reading (whole_form spans) n f) o) least t a b → IsReadAs (λ n. optional_reading (reading (whole_form spans) n f) o) least (branch present (t ∷ [])) a b
optional-case spans f least t a b None there h = cc
optional-case spans f least t a b (Some v) there h = present-of (λ n. reading (whole_form spans) n f v) least t a b h

inside-case : (spans : Bool) (k : Text) (f : Form) (d : Data) (place : Text) → is_some (get k d) ≡ true → IsMemberBroken spans k f d place → IsInside spans k f d place
inside-case spans k f d place there (inl w) = absurd (true≢false (sym there ∙ ap (λ (o : Option Data). is_some o) w.0))
inside-case spans k f d place there (inr w) = w

-- the other name of an item that has one, and of one that has none
pub renamed : {d : Data} {i : Ident} {s e : Reader} → is_some (get (codes "as") d) ≡ true → NotesIdent binder (codes "as") d i s e → NotesRename d (Some i) s e
renamed {d} {i} {s} {e} there n = weaker
    (λ a b h. (sym there, record { member = optional-case s.spans (leaf (an_ident binder)) (depth d) (ident_tree binder i) a b (get (codes "as") d) there h.member }))
    (λ x h. IfPlace-more (IsMemberBroken s.spans (codes "as") (leaf (an_ident binder)) d) (IsInside s.spans (codes "as") (leaf (an_ident binder)) d) x (λ place w. inside-case s.spans (codes "as") (leaf (an_ident binder)) d place there w) h) n

pub not_renamed : {d : Data} {s : Reader} → get (codes "as") d ≡ None → NotesRename d None s s
not_renamed {d} {s} none = unchanged {P = λ spans a b. (false ≡ is_some (get (codes "as") d)) × ReadsMay spans (codes "as") (leaf (an_ident binder)) d (leaf_tree (kind absent)) a b} {T = λ spans. LocatesInside spans (codes "as") (leaf (an_ident binder)) d}
    (λ a. (sym (ap (λ (o : Option Data). is_some o) none), may-absent (codes "as") (leaf (an_ident binder)) d a none))

-- ---- trees

pub item-tree : (i : Ident) (r : Option Ident) (b : Bool) → is_some r ≡ b → item_view (record { ident = i; rename = r }) ≡ branch import_item (leaf_tree (ident (if b then word else binder) i.0) ∷ optional (ident_tree binder) r ∷ [])
item-tree i None true h = cc
item-tree i None false h = refl
item-tree i (Some r) true h = refl
item-tree i (Some r) false h = cc

pub made-entry : (p : Vec (String Global) Global) (x : ImportContent) → entry_view (roll-Import (record { path = p; content = x })) ≡ branch import_entry (names_tree p ∷ content_view x ∷ [])
made-entry p x = search (rules, the_lemmas)
