-- The names that a bundle calls built in, for validation (WGSL, "Predeclared enumerants", "Built-in functions").
use Rattle.std.specs.Prelude.{List, [], ◌∷◌, if◌then◌else◌, Option, Some, None, codes}
use Rattle.serde_json.specs.Data.{Data}
use Rattle.serde_json.specs.Find.{get, as_str}
use Rattle.wesl_tree_names.specs.Path.{Text}
use Rattle.wesl_program_bundle.specs.Reading.{◌>>=◌, or_empty}
use Rattle.wesl_json_form.specs.Keys.{has_only}

-- the names that are defined, those of functions, and those of constructors
pub record Builtins : Type 0 where
  pub names : List Text
  pub functions : List Text
  pub constructors : List Text

-- the keys that the object at `builtins` may have
abbrev pub builtins_keys : List Text
builtins_keys = codes "names" ∷ codes "functions" ∷ codes "constructors" ∷ []

-- lists of any texts, empty where they are not there
abbrev pub builtins_of_members : Data → Option Builtins
builtins_of_members d = do
  names ← or_empty as_str (get (codes "names") d)
  functions ← or_empty as_str (get (codes "functions") d)
  constructors ← or_empty as_str (get (codes "constructors") d)
  Some (record { names = names; functions = functions; constructors = constructors })

-- the names that a value calls built in: an object that has no other keys, each absent or with a list of texts
abbrev pub builtins_in : Data → Option Builtins
builtins_in d = if has_only builtins_keys d then builtins_of_members d else None
