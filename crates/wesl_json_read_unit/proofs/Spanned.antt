-- What is read and noted of an object without a word, and of the node with a span that it is.
use Rattle.std.proofs.Common.{◌≡◌, ◌∙◌, ℕ, Bool, List, true, false, Option, Some, None, ap, codes, refl, subst, sym}
use Rattle.std.specs.Option.{is_some}
use Rattle.serde_json.specs.Data.{Data, depth}
use Rattle.serde_json.specs.Find.{get}
use Rattle.wesl_tree_names.specs.Path.{Text}
use Rattle.wesl_tree_names.specs.declared.errors.Error as error
use Rattle.wesl_tree_syntax.specs.Tree.{Kind, Tree, Forest, kind, at, before, end}
use Rattle.wesl_json_form.specs.Schema.{Form, Name, Row, a_span, beside, fixed, inner, list_of, needs, node, nothing, spanned}
use Rattle.wesl_json_form.specs.Nodes.{nodes_of, shorts_of, whole_form}
use Rattle.wesl_json_form.specs.Reading.{empty_of, known_keys, needed, or_empty, reading, span_in}
use Rattle.wesl_json_form.specs.Keys.{has_only, keys_beside}
use Rattle.wesl_json_form.specs.Place.{field}
use Rattle.wesl_json_read.specs.Faults.{IsAtRoot, Locates, LocatesRow, LocatesSpan}
use Rattle.wesl_json_read.specs.Noted.{NotesForm, NotesKeys, NotesMany, NotesSpan}
use Rattle.wesl_json_read.specs.Numbers.{IsReadAs, Reads, ReadsMany, ReadsRows}
use Rattle.wesl_json_read.specs.declared.reader.Reader.{Reader}
use Rattle.wesl_json_read.proofs.Noting.{NotesRow, both, then, weaker}
use Rattle.wesl_json_read.proofs.Places.{keys-place, look_field, node-row, row-inside, span-place}
use Rattle.wesl_json_read.proofs.Rows.{plain-kind}
use Rattle.wesl_json_read.proofs.Steps.{inner-then, known-object, needs-then, none-then}
use Rattle.wesl_json_read.proofs.Worded.{placed-reads}

module _ (spans : Bool) (k : Kind) (row : Row) where
  -- the row of an object without a word, in a node that has a span: a span where spans are read, and the members of the node in it
  abbrev pub spanned_row : Row
  spanned_row = beside spans a_span (inner (fixed (kind k)) row nothing)

  -- an object has only these members, and they are read as the tree
  pub record ReadsSpanned (d : Data) (t : Tree) (old new : List Text) : Type 0 where
    pub known : has_only (known_keys spanned_row d) d ≡ true
    pub inside : ReadsRows spans (inner (fixed (kind k)) row nothing) d (before t end) old new

module _ (spans : Bool) (m : Name) (outer k : Kind) (row : Row) (d : Data) (is : nodes_of spans m d ≡ Some (spanned spans outer (fixed (kind k)) row)) where
  pub spanned-reads : (ts : Forest) (a b : List Text) → has_only (known_keys (spanned_row spans k row) d) d ≡ true → ReadsRows spans row d ts a b → ReadsSpanned spans k row d (record { label = kind k; children = ts }) a b
  spanned-reads ts a b known r = record { known = known; inside = inner-then (plain-kind k) refl r (none-then d b) }

  pub spanned-placed : (s e : ℕ) (t : Tree) (a b : List Text) → span_in spans d ≡ Some (s, e) → ReadsSpanned spans k row d t a b → Reads spans (node m) d (record { label = at outer s e; children = before t end }) a b
  spanned-placed s e t a b span r = placed-reads m outer _ d s e (before t end) a b (known-object _ d r.known) is r.known span r.inside.row_is

  pub spanned-place : (e : error.Error) → has_only (known_keys (spanned_row spans k row) d) d ≡ true → LocatesRow spans (spanned_row spans k row) d e → Locates spans (node m) d e
  spanned-place e known h = node-row spans m d (spanned spans outer (fixed (kind k)) row) e (known-object _ d known) is h

  pub spanned-keys : (e : error.Error) → shorts_of m d ≡ None → has_only (known_keys (spanned_row spans k row) d) d ≡ false → IsAtRoot e → Locates spans (node m) d e
  spanned-keys e short wrong at_root = keys-place spans m (spanned spans outer (fixed (kind k)) row) d e is short wrong at_root

  pub spanned-span : (e : error.Error) → LocatesSpan spans d e → Locates spans (node m) d e
  spanned-span e bad = span-place spans m (spanned spans outer (fixed (kind k)) row) _ d e is refl bad

-- a node without a word, and with a span
module _ {m : Name} {outer k : Kind} {row : Row} {d : Data} where
  pub of_spanned : (ks : List Text) {ts : Forest} {i j : ℕ} {s n o e : Reader} → ((spans : Bool) → nodes_of spans m d ≡ Some (spanned spans outer (fixed (kind k)) row)) → shorts_of m d ≡ None → ((spans : Bool) → keys_beside spans (codes "span") ks ≡ known_keys (spanned_row spans k row) d) → NotesSpan d i j s n → NotesKeys n.spans ks d n o → NotesRow (λ spans. spanned_row spans k row) d row ts o e → NotesForm (node m) d (record { label = at outer i j; children = before (record { label = kind k; children = ts }) end }) s e
  of_spanned ks {ts} {i} {j} {s} {n} {o} {e} is short agree span keys rows =
      both {P = λ spans a b. (b ≡ a) × (span_in spans d ≡ Some (i, j))} {T = λ spans. Locates spans (node m) d} (λ a b c x y. subst (λ z. Reads s.spans (node m) d (record { label = at outer i j; children = before (record { label = kind k; children = ts }) end }) z c) x.0 (spanned-placed s.spans m outer k row d (is s.spans) i j (record { label = kind k; children = ts }) b c x.1 y))
      (weaker (λ a b x. x) (λ x h. spanned-span s.spans m outer k row d (is s.spans) x h) span)
      (then {P = λ _ a b. (b ≡ a) × (has_only (keys_beside n.spans (codes "span") ks) d ≡ true)} {T = λ spans. Locates spans (node m) d} {Q = λ spans. ReadsRows spans row d ts} {R = λ spans. ReadsSpanned spans k row d (record { label = kind k; children = ts })} {U = λ spans. LocatesRow spans (spanned_row spans k row) d}
      (λ a b c x y. spanned-reads n.spans m outer k row d (is n.spans) ts a c (ap (λ z. has_only z d) (sym (agree n.spans)) ∙ x.1) (subst (λ z. ReadsRows n.spans row d ts z c) x.0 y))
      (λ a b x known h. spanned-place n.spans m outer k row d (is n.spans) x (ap (λ z. has_only z d) (sym (agree n.spans)) ∙ known.1) h)
      (weaker (λ a b x. x) (λ x y. spanned-keys n.spans m outer k row d (is n.spans) x short (ap (λ z. has_only z d) (sym (agree n.spans)) ∙ y.1) y.0) keys)
      rows.noted)

needed-case : (spans : Bool) (f : Form) (least : ℕ) (t : Tree) (a b : List Text) (o : Option Data) → is_some o ≡ true → IsReadAs (λ n. or_empty (empty_of f) (reading (whole_form spans) n f) o) least t a b → IsReadAs (λ n. needed (reading (whole_form spans) n f) o) least t a b
needed-case spans f least t a b None found h = cc
needed-case spans f least t a b (Some v) found h = h

-- a list that is known to be there
pub needs_many_next : {whole : Bool → Row} {k : Text} {kd : Kind} {m : Name} {row : Row} {d : Data} {t : Tree} {ts : Forest} {s n e : Reader} → look_field k (whole s.spans) d ≡ Some (field k true (list_of kd m)) → is_some (get k d) ≡ true → NotesMany k (list_of kd m) d t s n → NotesRow whole d row ts n e → NotesRow whole d (needs k (list_of kd m) row) (before t ts) s e
needs_many_next {whole} {k} {kd} {m} {row} {d} {t} {ts} {s} there found p q =
    record { noted = both (λ a b c x y. needs-then (record { member = needed-case s.spans (list_of kd m) (depth d) t a b (get k d) found x.member }) y) (weaker {Q = λ spans. ReadsMany spans k (list_of kd m) d t} (λ a b h. h) (λ x h. row-inside s.spans (whole s.spans) k true (list_of kd m) d x there h) p) q.noted }
