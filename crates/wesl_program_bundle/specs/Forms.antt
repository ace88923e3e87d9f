-- Where a value breaks the form of a bundle.
use Rattle.std.specs.Prelude.{◌≡◌, ◌⊎◌, List, [], ◌∷◌, Bool, true, false, if◌then◌else◌, Option, Some, None, option_map, codes, map}
use Rattle.std.specs.Str.{bytes_eq}
use Rattle.serde_json.specs.Data.{Data}
use Rattle.serde_json.specs.Find.{get, at, as_bool, as_str, as_array, as_object}
use Rattle.wesl_tree_names.specs.Path.{Text}
use Rattle.wesl_program_bundle.specs.Place.{IsFloatAt}
use Rattle.wesl_json_form.specs.Pointer.{Part, key, index, pointer_text}
use Rattle.wesl_program_bundle.specs.Reading.{name_in, path_in}
use Rattle.wesl_json_form.specs.Keys.{has_only}
use Rattle.wesl_program_bundle.specs.Features.{feature_in}
use Rattle.wesl_program_bundle.specs.Bundle.{naming_in, limit_in, form_in}

-- What is asked of a value in a bundle: to be a bundle, a path, a nonempty name, any text, a module and so on. Any value passes
-- as a unit. `IsWrong` says which values fail.
pub data Form : Type 0 where
  a_bundle : Form
  a_path : Form
  a_name : Form
  a_text : Form
  a_module : Form
  a_unit : Form
  a_package : Form
  a_package_module : Form
  some_features : Form
  a_feature : Form
  a_mangler : Form
  a_truth : Form
  a_limit : Form
  a_form : Form
  some_builtins : Form
  a_list_of : Form → Form
  -- any keys
  an_object_of : Form → Form

-- a member that an object may have: its key, whether it has to be there, and the form of its value
pub record Field : Type 0 where
  pub named : Text
  pub is_required : Bool
  pub form : Form

-- a member that has to be there
abbrev pub required : Text → Form → Field
required k f = record { named = k; is_required = true; form = f }

-- a member that may be absent
abbrev pub optional : Text → Form → Field
optional k f = record { named = k; is_required = false; form = f }

-- the members that an object of the form may have; a form of other values, or of objects with any keys, has none
abbrev pub fields : Form → List Field
fields a_bundle =
    required (codes "root") a_path
    ∷ optional (codes "keep") (a_list_of a_name)
    ∷ optional (codes "modules") (a_list_of a_module)
    ∷ optional (codes "packages") (a_list_of a_package)
    ∷ optional (codes "features") some_features
    ∷ optional (codes "mangler") a_mangler
    ∷ optional (codes "mangle_root") a_truth
    ∷ optional (codes "eager") a_truth
    ∷ optional (codes "max_modules") a_limit
    ∷ optional (codes "form") a_form
    ∷ optional (codes "builtins") some_builtins
    ∷ []
fields a_module = required (codes "path") a_path ∷ required (codes "unit") a_unit ∷ []
fields a_package =
    required (codes "name") a_name ∷ required (codes "unit") a_unit
    ∷ optional (codes "modules") (a_list_of a_package_module) ∷ optional (codes "dependencies") (a_list_of a_package) ∷ []
fields a_package_module = required (codes "name") a_name ∷ required (codes "unit") a_unit ∷ optional (codes "modules") (a_list_of a_package_module) ∷ []
fields some_features = optional (codes "default") a_feature ∷ optional (codes "flags") (an_object_of a_feature) ∷ []
fields some_builtins = optional (codes "names") (a_list_of a_text) ∷ optional (codes "functions") (a_list_of a_text) ∷ optional (codes "constructors") (a_list_of a_text) ∷ []
fields _ = []

-- the first of these members that has the key, if one has it
abbrev pub find_field : Text → List Field → Option Field
find_field k [] = None
find_field k (f ∷ fs) = if bytes_eq k f.named then Some f else find_field k fs

-- the form of the value at a key; none where the form has no member of that key
abbrev pub form_at : Form → Text → Option Form
form_at f k = option_map (λ x. x.form) (find_field k (fields f))

-- an object that lacks a member or has a key of none, or no object
abbrev pub IsWrongObject : List Field → Data → Type 0
IsWrongObject fs d =
    (has_only (map (λ f. f.named) fs) d ≡ false)
    ⊎ ((k : Text) × (option_map (λ x. x.is_required) (find_field k fs) ≡ Some true) × (get k d ≡ None))

-- itself no value of the form, whatever its members and items; any value is a unit's, until it is read
abbrev pub IsWrong : Form → Data → Type 0
IsWrong a_bundle d = IsWrongObject (fields a_bundle) d
IsWrong a_path d = path_in d ≡ None
IsWrong a_name d = name_in d ≡ None
IsWrong a_text d = as_str d ≡ None
IsWrong a_module d = IsWrongObject (fields a_module) d
IsWrong a_unit d = ⊥
IsWrong a_package d = IsWrongObject (fields a_package) d
IsWrong a_package_module d = IsWrongObject (fields a_package_module) d
IsWrong some_features d = IsWrongObject (fields some_features) d
IsWrong a_feature d = feature_in d ≡ None
IsWrong a_mangler d = naming_in d ≡ None
IsWrong a_truth d = as_bool d ≡ None
IsWrong a_limit d = limit_in d ≡ None
IsWrong a_form d = form_in d ≡ None
IsWrong some_builtins d = IsWrongObject (fields some_builtins) d
IsWrong (a_list_of f) d = as_array d ≡ None
IsWrong (an_object_of f) d = as_object d ≡ None

-- g is the form of the value at the key; in an object of any keys all values have one form
abbrev pub HasFormAt : Form → Text → Form → Type 0
HasFormAt f k g = (form_at f k ≡ Some g) ⊎ (f ≡ an_object_of g)

-- the value breaks the form where these parts lead
abbrev pub BreaksAt : Form → List Part → Data → Type 0
BreaksAt f [] d = IsWrong f d
BreaksAt f (key k ∷ path) d = (g : Form) × (e : Data) × HasFormAt f k g × (get k d ≡ Some e) × BreaksAt g path e
BreaksAt f (index i ∷ path) d = (g : Form) × (e : Data) × (f ≡ a_list_of g) × (at i d ≡ Some e) × BreaksAt g path e

-- the place of a fault of the form
abbrev pub IsBroken : Form → Data → Text → Type 0
IsBroken f d place = (path : List Part) × (place ≡ pointer_text path) × BreaksAt f path d

-- the place of a number that is not read as a whole one
abbrev pub HasFloatAt : Data → Text → Type 0
HasFloatAt d place = (path : List Part) × (place ≡ pointer_text path) × IsFloatAt path d

-- a place at which the value is no bundle
abbrev pub IsBrokenBundle : Data → Text → Type 0
IsBrokenBundle d place = HasFloatAt d place ⊎ IsBroken a_bundle d place
