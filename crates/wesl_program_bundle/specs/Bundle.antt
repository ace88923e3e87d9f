-- Bundles: what one says, and which values are one.
use Rattle.std.specs.Prelude.{ℕ, List, [], ◌∷◌, Bool, true, false, ◌==◌, nat_lt, if◌then◌else◌, Option, Some, None, option_and_then, codes}
use Rattle.std.specs.Str.{bytes_eq}
use Rattle.serde_json.specs.Data.{Data}
use Rattle.serde_json.specs.Find.{get, as_bool, as_number, as_u64, as_str}
use Rattle.serde_json.specs.Written.{has_float}
use Rattle.wesl_tree_names.specs.Path.{Text, Path}
use Rattle.wesl_program_bundle.specs.Reading.{◌>>=◌, name_in, path_in, required_in, or_empty, or_default, optional_in}
use Rattle.wesl_json_form.specs.Keys.{has_only}
use Rattle.wesl_program_bundle.specs.Features.{Features, features_in}
use Rattle.wesl_program_bundle.specs.Builtins.{Builtins, builtins_in}
use Rattle.wesl_program_bundle.specs.Packages.{Packages, no_packages, packages_in}
use Rattle.wesl_program_bundle.specs.declared.options.Naming.{Naming}
use Rattle.wesl_program_bundle.specs.declared.options.Naming.TheVariants as naming

-- ---- what a bundle says

-- a module: where it is, and the value that its unit is read from
pub record Module : Type 0 where
  pub path : Path
  pub unit : Data

-- how modules are linked: how the names of their items are written, whether those of the root's items are too, whether
-- every import is followed and every declaration is held, how many modules may be loaded, and whether the answer's unit is
-- written with spans
pub record Options : Type 0 where
  pub mangler : Naming
  pub mangle_root : Bool
  pub eager : Bool
  pub max_modules : ℕ
  pub spans : Bool

-- the path of the root, the names that are kept, the modules in order, where one path may stand twice, the packages, the
-- answers for feature flags, without which no condition is judged, the options, and the built-in names, without which nothing
-- is validated
pub record Bundle : Type 0 where
  pub root : Path
  pub keep : List Text
  pub modules : List Module
  pub packages : Packages
  pub features : Option Features
  pub options : Options
  pub builtins : Option Builtins

-- ---- which values are bundles

-- the mangler that a word names: `escape`, `unicode` or `none`; no other text names one
abbrev pub naming_of : Text → Option Naming
naming_of s = if bytes_eq s (codes "escape") then Some naming.Escape else (if bytes_eq s (codes "unicode") then Some naming.Unicode else (if bytes_eq s (codes "none") then Some naming.Own else None))

-- the word of a mangler
abbrev pub naming_in : Data → Option Naming
naming_in d = option_and_then naming_of (as_str d)

-- a number of at most 32 bits; a greater one is refused
abbrev pub below_limit : ℕ → Option ℕ
below_limit n = if nat_lt n 4294967296 then Some n else None

-- a whole number of at most 32 bits
abbrev pub limit_in : Data → Option ℕ
limit_in d = option_and_then below_limit (option_and_then as_u64 (as_number d))

-- whether units of this form have spans
abbrev pub spans_in_form : ℕ → Option Bool
spans_in_form n = if n == 1 then Some false else (if n == 2 then Some true else None)

-- the number of a form
abbrev pub form_in : Data → Option Bool
form_in d = option_and_then spans_in_form (option_and_then as_u64 (as_number d))

-- the keys that a module in `modules` may have
abbrev pub module_keys : List Text
module_keys = codes "path" ∷ codes "unit" ∷ []

-- the module that members say: `path` and `unit` have to be there, the path is not relative, and the unit is any value
abbrev pub module_of_members : Data → Option Module
module_of_members d = do
  path ← required_in path_in (codes "path") d
  unit ← get (codes "unit") d
  Some (record { path = path; unit = unit })

-- the module that a value is: an object that has no other keys
abbrev pub module_in : Data → Option Module
module_in d = if has_only module_keys d then module_of_members d else None

-- the keys that a bundle may have
abbrev pub bundle_keys : List Text
bundle_keys =
    codes "root" ∷ codes "keep" ∷ codes "modules" ∷ codes "packages" ∷ codes "features"
    ∷ codes "mangler" ∷ codes "mangle_root" ∷ codes "eager" ∷ codes "max_modules" ∷ codes "form" ∷ codes "builtins" ∷ []

-- the options that members say: where nothing else is said the escape form, the root's names as they are, only what is reached,
-- a thousand modules, and form 1
abbrev pub options_in : Data → Option Options
options_in d = do
  mangler ← or_default naming.Escape naming_in (get (codes "mangler") d)
  mangle_root ← or_default false as_bool (get (codes "mangle_root") d)
  eager ← or_default false as_bool (get (codes "eager") d)
  max_modules ← or_default 1000 limit_in (get (codes "max_modules") d)
  spans ← or_default false form_in (get (codes "form") d)
  Some (record { mangler = mangler; mangle_root = mangle_root; eager = eager; max_modules = max_modules; spans = spans })

-- The bundle that members say: `root` has to be there. An absent list is empty; without `features` no condition is judged, and
-- without `builtins` nothing is validated.
abbrev pub bundle_of_members : Data → Option Bundle
bundle_of_members d = do
  root ← required_in path_in (codes "root") d
  keep ← or_empty name_in (get (codes "keep") d)
  modules ← or_empty module_in (get (codes "modules") d)
  packages ← or_default no_packages packages_in (get (codes "packages") d)
  features ← optional_in features_in (get (codes "features") d)
  options ← options_in d
  builtins ← optional_in builtins_in (get (codes "builtins") d)
  Some (record { root = root; keep = keep; modules = modules; packages = packages; features = features; options = options; builtins = builtins })

-- the bundle that a value is: an object that has no other keys; any numbers may still stand in its units
abbrev pub bundle_in : Data → Option Bundle
bundle_in d = if has_only bundle_keys d then bundle_of_members d else None

-- the bundle that a value is: it has the form, and every number in it is read as a whole one
abbrev pub bundle_of : Data → Option Bundle
bundle_of d = if has_float d then None else bundle_in d
