-- Where the bundle's reading met a fault.
use Rattle.std.specs.Prelude.{◌≡◌, ◌⊎◌, List, [], ◌∷◌, ◌++◌, true, Option, Some, None, string_bytes}
use Rattle.serde_json.specs.Data.{Data}
use Rattle.serde_json.specs.Find.{get}
use Rattle.wesl_tree_names.specs.Path.{Text}
use Rattle.wesl_tree_names.specs.declared.errors.Error as error
use Rattle.wesl_program_bundle.specs.declared.members.BundleError.{BundleError}
use Rattle.wesl_program_bundle.specs.declared.members.BundleError.TheVariants.{At, Memory}
use Rattle.wesl_json_form.specs.Pointer.{Part, key, part_text, pointer_text}
use Rattle.wesl_program_bundle.specs.Forms.{Form, Field, BreaksAt, IsBroken}

-- memory was refused, or P holds of the place
abbrev pub IfPlace : BundleError → (Text → Type 0) → Type 0
IfPlace (At s) P = P (string_bytes s)
IfPlace Memory P = Unit {0}

-- the place that the fault tells; want of memory tells none
abbrev pub place_of : BundleError → Option Text
place_of (At s) = Some (string_bytes s)
place_of Memory = None

-- the fault is want of memory, or tells a place at which the value breaks the form
abbrev pub Locates : Form → Data → BundleError → Type 0
Locates f d e = IfPlace e (IsBroken f d)

-- the member lacks, where it is required, or is broken
abbrev pub IsMemberBroken : Field → Data → Text → Type 0
IsMemberBroken f d place =
    ((f.is_required ≡ true) × (get f.named d ≡ None) × (place ≡ []))
    ⊎ ((v : Data) × (path : List Part) × (get f.named d ≡ Some v) × (place ≡ pointer_text (key f.named ∷ path)) × BreaksAt f.form path v)

-- the fault is want of memory, or tells a place, counted from the object, at which the member is broken or lacks
abbrev pub LocatesMember : Field → Data → BundleError → Type 0
LocatesMember f d e = IfPlace e (IsMemberBroken f d)

-- the same fault, told of what has the faulty value at a part
abbrev pub IsUnder : Part → BundleError → BundleError → Type 0
IsUnder part inner outer =
    (outer ≡ Memory)
    ⊎ ((p : Text) × (place_of inner ≡ Some p) × (place_of outer ≡ Some ((47 ∷ part_text part) ++ p)))

-- the error that the program tells
abbrev pub error_of : BundleError → error.Error
error_of (At s) = error.BadBundle s
error_of Memory = error.Memory
