-- The units of a bundle's modules, by their paths.
pub use Rattle.wesl_program_bundle.specs.Bundle.{Module}
use Rattle.std.specs.Prelude.{List, [], ◌∷◌, if◌then◌else◌, Option, Some, None}
use Rattle.serde_json.specs.Data.{Data}
use Rattle.wesl_tree_names.specs.Path.{Path}
use Rattle.wesl_tree_names.specs.PathOrder.{same_path}

-- the later of two units
abbrev pub later : Option Data → Option Data → Option Data
later before None = before
later before (Some d) = Some d

-- the unit at a path: of the modules there the last one's
abbrev pub unit_at : Path → List Module → Option Data
unit_at p [] = None
unit_at p (m ∷ ms) = later (if same_path m.path p then Some m.unit else None) (unit_at p ms)
