-- What tables of items and of sources say.
use Rattle.std.specs.Prelude.{List, Option, String, option_map}
use Rattle.std.specs.declared.alloc.Global.{Global}
use Rattle.std.specs.BTreeMap.{BTreeMap, get_by_text}
use Rattle.std.specs.Map.{lookup}
use Rattle.wesl_tree_names.specs.Path.{path_view}
use Rattle.wesl_tree_names.specs.PathOrder.{same_path}
use Rattle.wesl_tree_names.specs.declared.path.ModulePath.{ModulePath}
use Rattle.wesl_source_map_entries.specs.Records.{Items, Sources, item_view, source_view}

-- the items that the entries of a table give to names
abbrev pub items_in : BTreeMap (String Global) (ModulePath × String Global) → Items
items_in table name = option_map item_view (get_by_text table name)

-- what entries say of the modules at paths
abbrev pub sources_in : List (ModulePath × (Option (String Global) × String Global)) → Sources
sources_in entries path = option_map source_view (lookup (λ p. same_path path (path_view p)) entries)
