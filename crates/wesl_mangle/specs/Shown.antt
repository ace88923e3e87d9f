-- What a record of names shows.
use Rattle.std.specs.Prelude.{Option, option_map, String}
use Rattle.std.specs.BTreeMap.{BTreeMap, get_by_text}
use Rattle.std.specs.declared.alloc.Global.{Global}
use Rattle.wesl_tree_names.specs.Path.{Text, Path}
use Rattle.wesl_tree_names.specs.declared.path.ModulePath.{ModulePath}
use Rattle.wesl_mangle_forms.specs.Items.{item_view}

-- the item that a name was last given for
abbrev pub shown : BTreeMap (String Global) (ModulePath × String Global) → Text → Option (Path × Text)
shown items name = option_map item_view (get_by_text items name)
