-- What is read of a unit, in the form that its value says.
use Rattle.std.proofs.Common.{◌≡◌, ◌&&◌, List, [], ◌∷◌, Bool, true, false, if◌then◌else◌, Option, Some, None, length, codes, inr, refl, sym, ap, subst, append-nil, arith}
use Rattle.std.specs.Option.{is_some}
use Rattle.serde_json.specs.Data.{Data}
use Rattle.serde_json.specs.Find.{get}
use Rattle.wesl_tree_names.specs.Path.{Text}
use Rattle.wesl_tree_names.specs.declared.errors.Error as error
use Rattle.wesl_tree_syntax.specs.Tree.{Forest, Tree, before, branch, end, identifiers, tree_below, unit}
use Rattle.wesl_tree_syntax.specs.Unit.{unit_below}
use Rattle.wesl_tree_syntax.specs.Shown.{placed}
use Rattle.wesl_json_form.specs.Schema.{node, node_of_kind, a_unit, leaf, Row, beside, extra, second_form}
use Rattle.wesl_json_form.specs.Nodes.{unit_row, whole_form}
use Rattle.wesl_json_form.specs.Reading.{any_leaf, has_extra, is_extra, known_keys, reading}
use Rattle.wesl_json_form.specs.Keys.{has_only}
use Rattle.wesl_json_form.specs.Place.{field, IsBroken}
use Rattle.wesl_json_form.specs.Pointer.{key, pointer_text}
use Rattle.wesl_json_form.specs.Units.{IsBrokenUnit, IsUnitOf, NumberedFrom, AreDistinct, says_form, unit_tree}
use Rattle.wesl_json_read.specs.Faults.{IfPlace, Locates, LocatesRow}
use Rattle.wesl_json_read.specs.Numbers.{Reads, ReadsForm, ReadsRows}
use Rattle.wesl_json_read.proofs.Places.{IfPlace-more, get-object, node-case}
use Rattle.wesl_json_read.proofs.Rows.{Begins-same, row-beside}
use Rattle.wesl_json_read.proofs.Expressions.{bare-reads}
use Rattle.std.specs.Prelude.{IfSome, IsSomeAnd}
use Rattle.wesl_json_read_unit.specs.Forms.{LocatesForm, has_its_form}
use Rattle.wesl_json_read.specs.Noted.{as_error}
use Rattle.wesl_json_read.specs.declared.reader.Fault.{Fault}
use Rattle.wesl_json_read.specs.declared.reader.Reader.{Reader}
use Rattle.wesl_json_read.proofs.Noting.{NotesRow}

abbrev pub unit_of : Tree → Tree → Tree → Tree
unit_of i r g = branch unit (i ∷ r ∷ g ∷ [])

abbrev pub formed_row : Bool → Row
formed_row spans = beside spans second_form unit_row

-- ---- the form that a value says

formed-case : (o : Option Data) → (elim o as (λ _. Bool) [ None ↦ true | Some v ↦ is_extra second_form v ]) ≡ true → (if is_some o then has_extra second_form o else true) ≡ true
formed-case None h = refl
formed-case (Some v) h = h

formed : (spans : Bool) (d : Data) → spans ≡ says_form d → has_its_form d ≡ true → (if spans then has_extra second_form (get (codes "form") d) else true) ≡ true
formed spans d is h = subst (λ b. (if b then has_extra second_form (get (codes "form") d) else true) ≡ true) (sym is) (formed-case (get (codes "form") d) h)

unformed-case : (d : Data) (o : Option Data) (place : Text) → get (codes "form") d ≡ o → place ≡ pointer_text (key (codes "form") ∷ []) → (elim o as (λ _. Bool) [ None ↦ true | Some v ↦ is_extra second_form v ]) ≡ false → IsBrokenUnit d place
unformed-case d None place found told bad = cc
unformed-case d (Some v) place found told bad =
    let broken : IsBroken (whole_form true) (node a_unit) d place = node-case true a_unit d (node_of_kind unit (formed_row true)) place (get-object (codes "form") d v found) refl (inr (codes "form", field (codes "form") true (leaf (extra second_form)), refl, (v, [], found, told, ap any_leaf bad))) in
    subst (λ b. IsBroken (whole_form b) (node a_unit) d place) (sym (ap is_some found)) broken

-- what stands at `form` is not 2
pub form-place : (d : Data) (e : error.Error) → LocatesForm d e → IfPlace e (IsBrokenUnit d)
form-place d e h = IfPlace-more (λ place. (place ≡ pointer_text (key (codes "form") ∷ [])) × (has_its_form d ≡ false)) (IsBrokenUnit d) e (λ place w. unformed-case d (get (codes "form") d) place refl w.0 w.1) h

-- ---- what is noted of the lists of a unit

abbrev pub unit_forest : Tree → Tree → Tree → Forest
unit_forest i r g = before i (before r (before g end))

pub unit-rows : {spans : Bool} {d : Data} {s e : Reader} {i r g : Tree} {names : List Text} → NotesRow formed_row d unit_row (unit_forest i r g) s e → s.spans ≡ spans → s.numbering ≡ [] → e.fault ≡ None → names ≡ e.numbering → ReadsRows spans unit_row d (unit_forest i r g) [] names
unit-rows {spans} {d} {s} {e} {i} {r} {g} {names} rows spans_is fresh clear_is are =
    let read : ReadsRows s.spans unit_row d (unit_forest i r g) s.numbering e.numbering = rows.noted.read clear_is in
    subst (λ z. ReadsRows z unit_row d (unit_forest i r g) [] names) spans_is (subst (λ z. ReadsRows s.spans unit_row d (unit_forest i r g) z names) fresh (subst (λ z. ReadsRows s.spans unit_row d (unit_forest i r g) s.numbering z) (sym are) read))

fault-row : (spans : Bool) (d : Data) (x : error.Error) (o : Option Fault) → IfSome o (λ f. LocatesRow spans (formed_row spans) d (as_error f)) → IsSomeAnd o (λ f. x ≡ as_error f) → LocatesRow spans (formed_row spans) d x
fault-row spans d x None h is = absurd is
fault-row spans d x (Some f) h is = subst (λ y. LocatesRow spans (formed_row spans) d y) (sym is) h

pub unit-fault : {spans : Bool} {d : Data} {s e : Reader} {i r g : Tree} (x : error.Error) → NotesRow formed_row d unit_row (unit_forest i r g) s e → s.spans ≡ spans → s.fault ≡ None → IsSomeAnd e.fault (λ f. x ≡ as_error f) → LocatesRow spans (formed_row spans) d x
unit-fault {spans} {d} {s} {e} x rows spans_is clear_is is = subst (λ z. LocatesRow z (formed_row z) d x) spans_is (fault-row s.spans d x e.fault (rows.noted.first clear_is) is)

-- ---- a unit

module _ (spans : Bool) (d : Data) (says : spans ≡ says_form d) where
  pub unit-place : (e : error.Error) → Locates spans (node a_unit) d e → IfPlace e (IsBrokenUnit d)
  unit-place e h = subst (λ b. IfPlace e (IsBroken (whole_form b) (node a_unit) d)) says h

  pub unit-read : (i r g : Tree) (e : List Text) → has_only (known_keys (formed_row spans) d) d ≡ true → has_its_form d ≡ true → ReadsRows spans unit_row d (before i (before r (before g end))) [] e → Reads spans (node a_unit) d (unit_of i r g) [] e
  unit-read i r g e known second_is rows =
      bare-reads spans a_unit unit (formed_row spans) d refl _ [] e known (record { row_is = row-beside spans d second_form unit_row _ [] e (formed spans d says second_is) rows.row_is })

  -- the unit that the value stands for
  pub is-unit : (i r g : Tree) (names : List Text) → AreDistinct names → ReadsForm spans (node a_unit) d (unit_of i r g) [] names → IsUnitOf d (record { names = names; imports = i; directives = r; declarations = g })
  is-unit i r g names distinct h = record {
    read = λ n low. subst (λ b. reading (whole_form b) n (node a_unit) d ≡ Some (unit_tree (placed (record { names = names; imports = i; directives = r; declarations = g })))) says (h.spelled n names (omega arith) (Begins-same names));
    numbered = subst (λ is. NumberedFrom 0 is (length names)) (append-nil (identifiers (unit_of i r g).children)) h.numbered;
    distinct = distinct;
  }

below-case : (a b c : Bool) → ((true && (a && (b && (c && true)))) && true) ≡ true → ((a && b) && c) ≡ true
below-case true true true h = refl
below-case true true false h = cc
below-case true false c h = cc
below-case false b c h = cc

-- each number has a name
pub unit-below : (spans : Bool) (d : Data) (i r g : Tree) (names : List Text) → ReadsForm spans (node a_unit) d (unit_of i r g) [] names → unit_below (record { names = names; imports = i; directives = r; declarations = g }) ≡ true
unit-below spans d i r g names h = below-case (tree_below (length names) i) (tree_below (length names) r) (tree_below (length names) g) (h.closed (length names) (omega arith))
