-- Which modules a map of units has.
use Rattle.std.specs.Prelude.{◌≡◌, if◌then◌else◌, Option, Some, None, List, [], ◌∷◌, map}
use Rattle.serde_json.specs.Data.{Data}
use Rattle.wesl_json_form.specs.View.{borrowed_view}
use Rattle.wesl_json_form.specs.declared.value.BorrowedValue.{BorrowedValue}
use Rattle.wesl_tree_names.specs.Path.{Path, path_view}
use Rattle.wesl_tree_names.specs.PathOrder.{same_path}
use Rattle.wesl_tree_names.specs.declared.path.ModulePath.{ModulePath}
use Rattle.wesl_program.specs.Bundle.{Module, unit_at}
use Rattle.wesl_program.specs.declared.modules.BundleUnits.{BundleUnits}

-- what the entries of a map say
abbrev pub values_of : List (ModulePath × BorrowedValue) → List (Path × Data)
values_of es = map (λ e. (path_view e.0, borrowed_view e.1)) es

-- the value at a path
abbrev pub value_at : Path → List (Path × Data) → Option Data
value_at p [] = None
value_at p (e ∷ es) = if same_path p e.0 then Some e.1 else value_at p es

-- at each path the unit of the last module there
abbrev pub Holds : List Module → BundleUnits → Type 0
Holds ms m = (p : Path) → value_at p (values_of m.units.entries) ≡ unit_at p ms
