-- What is read of several parts, put together: all of it, or one of the faults.
use Rattle.std.specs.Prelude.{◌≡◌, ◌⊎◌, ℕ, Bool, true, false, [], ◌∷◌, ◌++◌, Option, Some, None, String, Vec, Result, Ok, Err, codes, string_bytes, string_cmp}
use Rattle.std.specs.BTreeMap.{BTreeMap, insert_entry}
use Rattle.std.specs.Global.{Global}
use Rattle.serde_json.specs.Data.{Data}
use Rattle.serde_json.specs.Find.{as_str}
use Rattle.wesl_tree_names.specs.Path.{Text}
use Rattle.wesl_json_form.specs.Pointer.{Part, index, key}
use Rattle.wesl_program_bundle.specs.declared.members.BundleError.{BundleError}
use Rattle.wesl_program_bundle.specs.declared.members.BundleError.TheVariants.{Memory}
use Rattle.wesl_cond_features.specs.declared.features.Feature.{Feature}
use Rattle.wesl_program_bundle.specs.Broken.{IfPlace, IsMemberBroken, IsUnder, place_of}
use Rattle.wesl_program_bundle.specs.Forms.{Form, a_list_of, a_name, a_package_module, a_text, a_unit, optional, required}
use Rattle.wesl_program_bundle.specs.Reading.{name_in}

-- the fault of one of two
abbrev pub IsEither : {A B : Type 0} → Result A BundleError → Result B BundleError → BundleError → Type 0
IsEither one other e = (one ≡ Err e) ⊎ (other ≡ Err e)

-- a key too many, or a fault of what is read
abbrev pub IsKeyOr : {A : Type 0} → Bool → Result A BundleError → BundleError → Type 0
IsKeyOr known read e = (known ≡ false) × (place_of e ≡ Some []) ⊎ (known ≡ true) × (read ≡ Err e)

-- the fault of what is read, told of what has it at a part
abbrev pub IsFaultUnder : {A : Type 0} → Part → Result A BundleError → BundleError → Type 0
IsFaultUnder part read e = (inner : BundleError) × (read ≡ Err inner) × IsUnder part inner e

-- nothing is read, which is told of what has it as its member k
abbrev pub IsUnreadUnder : {A : Type 0} → Text → Option A → BundleError → Type 0
IsUnreadUnder k read e = (inner : BundleError) × (read ≡ None) × (place_of inner ≡ Some []) × IsUnder (key k) inner e

-- a list and a further item are read as this list
abbrev pub IsWithItem : {A : Type 0} → Result (Vec A Global) BundleError → Result A BundleError → Vec A Global → Type 0
IsWithItem {A} list item more = (earlier : Vec A Global) × (last : A) × (list ≡ Ok earlier) × (item ≡ Ok last) × (more.items ≡ earlier.items ++ last ∷ [])

-- want of memory for the item at i, or a fault of the list, or of the item
abbrev pub IsItemFault : {A : Type 0} → ℕ → Result (Vec A Global) BundleError → Result A BundleError → BundleError → Type 0
IsItemFault i list item e = (e ≡ Memory) ⊎ (list ≡ Err e) ⊎ IsFaultUnder (index i) item e

-- ---- texts

-- a text, an empty one only where it may be empty
abbrev pub text_in : Bool → Data → Option Text
text_in true d = as_str d
text_in false d = name_in d

-- the form of a text: any text where it may be empty, and else a nonempty one
abbrev pub text_form : Bool → Form
text_form true = a_text
text_form false = a_name

-- ---- modules of packages

-- a member of a module is broken, or lacks
abbrev pub IsModuleMemberBroken : Data → Text → Type 0
IsModuleMemberBroken d place =
    IsMemberBroken (required (codes "name") a_name) d place
    ⊎ IsMemberBroken (required (codes "unit") a_unit) d place
    ⊎ IsMemberBroken (optional (codes "modules") (a_list_of a_package_module)) d place

-- the fault is want of memory, or tells a place, counted from the module, at which a member of it is broken or lacks
abbrev pub LocatesModuleMember : Data → BundleError → Type 0
LocatesModuleMember d e = IfPlace e (IsModuleMemberBroken d)

-- ---- flags

abbrev Flags : Type 0
Flags = BTreeMap (String Global) Feature

-- the flags with one more of this name
abbrev pub IsGrown : Flags → String Global → Feature → Flags → Type 0
IsGrown old name answer new = (own : String Global) × (string_bytes own ≡ string_bytes name) × (new.entries ≡ insert_entry string_cmp old.entries own answer)

-- flags and an answer for this name are read as these flags
abbrev pub IsWithFlag : Result Flags BundleError → String Global → Result Feature BundleError → Flags → Type 0
IsWithFlag flags name answer more = (earlier : Flags) × (last : Feature) × (flags ≡ Ok earlier) × (answer ≡ Ok last) × IsGrown earlier name last more

-- want of memory, or a fault of the flags, or of the answer
abbrev pub IsFlagFault : Result Flags BundleError → Result Feature BundleError → BundleError → Type 0
IsFlagFault flags answer e = (e ≡ Memory) ⊎ (flags ≡ Err e) ⊎ (answer ≡ Err e)
