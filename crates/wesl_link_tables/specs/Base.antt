-- Where the parts of an import statement lead, as the code keeps it: by numbers of paths.
use Rattle.std.specs.Prelude.{◌≡◌, ◌<◌, List, length, option_map}
use Rattle.wesl_tree_names.specs.Path.{Path, path_view}
use Rattle.wesl_link_symbols.specs.declared.ids.PathId.{PathId}
use Rattle.wesl_link_tables.specs.Imports as imports
use Rattle.wesl_link_tables.specs.Numbering.{path_in}
use Rattle.wesl_link_tables.specs.declared.imports.Base.{Base}
use Rattle.wesl_link_tables.specs.declared.imports.Base.TheVariants.{Unset, Nowhere, At}
use Rattle.wesl_link_tables.specs.declared.imports.Last.{Last}

-- where a value of the code says that a part of a statement leads
abbrev pub base_view : List Path → Base → imports.Base
base_view paths Unset = imports.unset
base_view paths Nowhere = imports.nowhere
base_view paths (At p) = imports.to (path_in paths p)

-- the number in it, if it has one, is that of a path
abbrev pub IsKnownBase : List Path → Base → Type 0
IsKnownBase paths (At p) = p.0 < length paths
IsKnownBase paths _ = Unit {0}

-- a statement of the module with this number leads there if its path is that of the one before
abbrev pub IsLast : List Path → PathId → Last → Type 0
IsLast paths own last = IsKnownBase paths last.base × (base_view paths last.base ≡ imports.base_of (path_in paths own) (option_map (λ p. path_view p.now) last.path))
