-- What reading a part of a tree notes in the reader.
use Rattle.std.specs.Prelude.{◌≡◌, ℕ, [], ◌∷◌, Bool, false, List, Some, None, IfSome, IsSomeAnd, codes}
use Rattle.std.specs.Option.{ForSome}
use Rattle.serde_json.specs.Data.{Data, Items, array}
use Rattle.serde_json.specs.Find.{as_array, get}
use Rattle.wesl_tree_names.specs.Path.{Text}
use Rattle.wesl_tree_names.specs.declared.errors.Error as error
use Rattle.wesl_tree_names.specs.declared.names.Ident.{Ident}
use Rattle.wesl_tree_syntax.specs.Tree.{Role, Tree}
use Rattle.wesl_tree_syntax.specs.View.{ident_tree}
use Rattle.wesl_json_form.specs.Keys.{has_only, keys_beside}
use Rattle.wesl_json_form.specs.Pointer.{Part, key, pointer_text}
use Rattle.wesl_json_form.specs.Reading.{name_in, span_in}
use Rattle.wesl_json_form.specs.Schema.{Form, an_ident, leaf}
use Rattle.wesl_json_read.specs.Faults.{IfPlace, IsAtRoot, IsUnderPart, Locates, LocatesHere, LocatesInside, LocatesMember, LocatesSpan}
use Rattle.wesl_json_read.specs.Keyed.{HasKeys}
use Rattle.wesl_json_read.specs.Numbers.{IsNameNumbered, Reads, ReadsMany, ReadsMay, ReadsNeeded}
use Rattle.wesl_json_read.specs.declared.reader.Reader.{Reader}
use Rattle.wesl_json_read.specs.declared.reader.Fault.{Fault}
use Rattle.wesl_json_read.specs.declared.reader.Fault.TheVariants as faults

-- the fault as an error
abbrev pub as_error : Fault → error.Error
as_error faults.Memory = error.Memory
as_error (faults.Place s) = error.BadTree s

-- A part is read: unless a fault is noted by then, it stands for the value.
-- The first fault is one of the value, and it is kept.
pub record Notes (Stands : Bool → List Text → List Text → Type 0) (Tells : Bool → error.Error → Type 0) (old new : Reader) : Type 0 where
  pub read : new.fault ≡ None → Stands old.spans old.numbering new.numbering
  pub first : old.fault ≡ None → IfSome new.fault (λ e. Tells old.spans (as_error e))
  pub kept : ForSome old.fault (λ e. new.fault ≡ Some e)
  pub same : new.spans ≡ old.spans

-- a fault is noted in any case
abbrev pub Never : Bool → List Text → List Text → Type 0
Never spans old new = ⊥

-- a value is read as the tree, or its fault is noted: a place at which it breaks the form, or that memory was refused
abbrev pub NotesForm : Form → Data → Tree → Reader → Reader → Type 0
NotesForm f d t = Notes (λ spans. Reads spans f d t) (λ spans. Locates spans f d)

-- the member k is read so; that it is not there is a fault of the object
abbrev pub NotesNeeded : Text → Form → Data → Tree → Reader → Reader → Type 0
NotesNeeded k f d t = Notes (λ spans. ReadsNeeded spans k f d t) (λ spans. LocatesMember spans k f d)

-- the member k is read so, as the tree of an option, which is absent where the member is not there
abbrev pub NotesMay : Text → Form → Data → Tree → Reader → Reader → Type 0
NotesMay k f d t = Notes (λ spans. ReadsMay spans k f d t) (λ spans. LocatesInside spans k f d)

-- the list at k is read so, as an empty one where it is not there
abbrev pub NotesMany : Text → Form → Data → Tree → Reader → Reader → Type 0
NotesMany k f d t = Notes (λ spans. ReadsMany spans k f d t) (λ spans. LocatesInside spans k f d)

-- a member that must be there is read as this name, in this role
abbrev pub NotesIdent : Role → Text → Data → Ident → Reader → Reader → Type 0
NotesIdent role k d i = NotesNeeded k (leaf (an_ident role)) d (ident_tree role i)

-- the value is an object that has no key but these, and `span` where it takes one, or it is noted to be wrong
abbrev pub NotesKeys : Bool → List Text → Data → Reader → Reader → Type 0
NotesKeys takes_span ks d =
    Notes (λ _ old new. (new ≡ old) × HasKeys takes_span ks d)
    (λ _ e. IsAtRoot e × (has_only (keys_beside takes_span (codes "span") ks) d ≡ false))

-- a fault is told of what has the faulty value at a part
pub record IsTold (part : Part) (old new : Reader) : Type 0 where
  pub none : old.fault ≡ None → new.fault ≡ None
  pub some : ForSome old.fault (λ e. IsSomeAnd new.fault (λ o. IsUnderPart part (as_error e) (as_error o)))
  pub numbers : new.numbering ≡ old.numbering
  pub same : new.spans ≡ old.spans

-- the same, or memory was refused where there was no fault
pub record IsToldOrRefused (part : Part) (old new : Reader) : Type 0 where
  pub none : old.fault ≡ None → IfSome new.fault (λ e. as_error e ≡ error.Memory)
  pub some : ForSome old.fault (λ e. IsSomeAnd new.fault (λ o. IsUnderPart part (as_error e) (as_error o)))
  pub numbers : new.fault ≡ None → new.numbering ≡ old.numbering
  pub same : new.spans ≡ old.spans

-- no fault is noted, and the member k is there
pub record IsThere (old : Reader) (k : Text) (d v : Data) : Type 0 where
  pub found : get k d ≡ Some v
  pub clear : old.fault ≡ None

-- the member k is not there, which is a fault of the object
abbrev pub Lacks : Text → Data → error.Error → Type 0
Lacks k d e = IsAtRoot e × (get k d ≡ None)

-- no fault is noted, and the member k is a list of these items
pub record IsList (old : Reader) (k : Text) (d : Data) (items : Items) : Type 0 where
  pub found : get k d ≡ Some (array items)
  pub clear : old.fault ≡ None

-- what stands at k is no list
abbrev pub IsNoList : Text → Data → Text → Type 0
IsNoList k d place = (v : Data) × (get k d ≡ Some v) × (as_array v ≡ None) × (place ≡ pointer_text (key k ∷ []))

-- memory was refused, or the error tells that what stands at k is no list
abbrev pub LocatesNoList : Text → Data → error.Error → Type 0
LocatesNoList k d e = IfPlace e (IsNoList k d)

-- the member k is not there, or it is no list, which is a fault of it
abbrev pub NotesNoList : Text → Data → Reader → Reader → Type 0
NotesNoList k d = Notes (λ _ old new. (new ≡ old) × (get k d ≡ None)) (λ _. LocatesNoList k d)

-- the object has this span: [0,0] where it has none, and where spans are not read
abbrev pub NotesSpan : Data → ℕ → ℕ → Reader → Reader → Type 0
NotesSpan d start end = Notes (λ spans old new. (new ≡ old) × (span_in spans d ≡ Some (start, end))) (λ spans. LocatesSpan spans d)

-- the value is a name, which has this number
abbrev pub NotesName : Data → Ident → Reader → Reader → Type 0
NotesName d i = Notes (λ _. IsNameNumbered d i.0) (λ _. LocatesHere (name_in d))
