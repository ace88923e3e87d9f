-- What an error tells of a value: memory was refused, or a place where the value breaks its form.
use Rattle.std.specs.Prelude.{◌≡◌, ◌⊎◌, Bool, codes, List, [], ◌∷◌, ◌++◌, Option, Some, None, string_bytes}
use Rattle.serde_json.specs.Data.{Data}
use Rattle.serde_json.specs.Find.{get}
use Rattle.wesl_tree_names.specs.Path.{Text}
use Rattle.wesl_tree_names.specs.declared.errors.Error as error
use Rattle.wesl_json_form.specs.Schema.{Form, Row}
use Rattle.wesl_json_form.specs.Place.{Field, fields, find_field, IsWrongObject, BreaksAt, IsBroken}
use Rattle.wesl_json_form.specs.Pointer.{Part, key, part_text, pointer_text}
use Rattle.wesl_json_form.specs.Nodes.{short_type, whole_form}
use Rattle.wesl_json_form.specs.Reading.{span_in}

-- the place that an error tells, if it tells one
abbrev pub place_of : error.Error → Option Text
place_of (error.BadTree s) = Some (string_bytes s)
place_of _ = None

-- memory was refused, or the value is wrong at a place with P
abbrev pub IfPlace : error.Error → (Text → Type 0) → Type 0
IfPlace error.Memory P = Unit {0}
IfPlace (error.BadTree s) P = P (string_bytes s)
IfPlace _ P = ⊥

-- the error tells the place of the value itself
abbrev pub IsAtRoot : error.Error → Type 0
IsAtRoot e = place_of e ≡ Some []

-- the same fault, told of what has the faulty value at a part, or memory was refused
abbrev pub IsUnderPart : Part → error.Error → error.Error → Type 0
IsUnderPart part inside outside =
    (outside ≡ error.Memory)
    ⊎ (outside ≡ inside) × (place_of inside ≡ None)
    ⊎ (p : Text) × (place_of inside ≡ Some p) × (place_of outside ≡ Some ((47 ∷ part_text part) ++ p))

-- the same of an object that has the faulty value at the key k
abbrev pub IsUnder : Text → error.Error → error.Error → Type 0
IsUnder k = IsUnderPart (key k)

-- memory was refused, or nothing is read of the value, and the error tells its own place
abbrev pub LocatesHere : {A : Type 0} → Option A → error.Error → Type 0
LocatesHere o e = IfPlace e (λ place. (place ≡ []) × (o ≡ None))

-- the member k is not there, told of the object, or nothing is read of it, told of the member
abbrev pub IsTextBroken : {A : Type 0} → (Data → Option A) → Text → Data → Text → Type 0
IsTextBroken read k d place = (get k d ≡ None) × (place ≡ []) ⊎ (v : Data) × (get k d ≡ Some v) × (read v ≡ None) × (place ≡ pointer_text (key k ∷ []))

-- memory was refused, or the error tells that the member k is not there or not read
abbrev pub LocatesText : {A : Type 0} → (Data → Option A) → Text → Data → error.Error → Type 0
LocatesText read k d e = IfPlace e (IsTextBroken read k d)

-- memory was refused, or the value is no name, where a type by its name alone is asked for
abbrev pub LocatesPlain : Data → error.Error → Type 0
LocatesPlain d e = LocatesHere (short_type d) e

-- memory was refused, or what stands at `span` is no span, where spans are read
abbrev pub LocatesSpan : Bool → Data → error.Error → Type 0
LocatesSpan spans d e = IfPlace e (λ place. (place ≡ pointer_text (key (codes "span") ∷ [])) × (span_in spans d ≡ None))

module _ (spans : Bool) where
  -- the place is that of the member k or inside it, and the member breaks the form there
  abbrev pub IsInside : Text → Form → Data → Text → Type 0
  IsInside k f d place = (v : Data) × (path : List Part) × (get k d ≡ Some v) × (place ≡ pointer_text (key k ∷ path)) × BreaksAt (whole_form spans) path (Some f) v

  -- memory was refused, or the error tells a place at which the member k breaks the form
  abbrev pub LocatesInside : Text → Form → Data → error.Error → Type 0
  LocatesInside k f d e = IfPlace e (IsInside k f d)

  -- the member k is not there, told of the object, or it breaks the form at the place
  abbrev pub IsMemberBroken : Text → Form → Data → Text → Type 0
  IsMemberBroken k f d place = (get k d ≡ None) × (place ≡ []) ⊎ IsInside k f d place

  -- memory was refused, or the error tells that the member k is not there, or a place at which it breaks the form
  abbrev pub LocatesMember : Text → Form → Data → error.Error → Type 0
  LocatesMember k f d e = IfPlace e (IsMemberBroken k f d)

  -- the object has a key too many or too few for the row, or a broken member
  abbrev pub IsRowBroken : Row → Data → Text → Type 0
  IsRowBroken row d place = (place ≡ []) × IsWrongObject row d ⊎ (k : Text) × (f : Field) × (find_field k (fields row d) ≡ Some f) × IsInside k f.form d place

  -- memory was refused, or the error tells that the object has wrong keys, or a place at which a member breaks its form
  abbrev pub LocatesRow : Row → Data → error.Error → Type 0
  LocatesRow row d e = IfPlace e (IsRowBroken row d)

  -- memory was refused, or the error tells a place at which the value breaks the form
  abbrev pub Locates : Form → Data → error.Error → Type 0
  Locates f d e = IfPlace e (IsBroken (whole_form spans) f d)

-- a fault in the member k that is the same whether spans are read or not
abbrev pub LocatesInsideAlways : Text → Form → Data → error.Error → Type 0
LocatesInsideAlways k f d e = (spans : Bool) → LocatesInside spans k f d e
