-- What manglers hold.
use Rattle.std.specs.Prelude.{Option, option_map}
use Rattle.std.specs.BTreeMap.{get_by_text}
use Rattle.wesl_tree_names.specs.Path.{Text, Path}
use Rattle.wesl_mangle_forms.specs.Items.{item_view}
use Rattle.wesl_mangle.specs.Kept.{option_or}
use Rattle.wesl_mangle.specs.declared.cache.CacheMangler.{CacheMangler}
use Rattle.wesl_mangle.specs.declared.hash.HashMangler.{HashMangler}

-- the mangler whose names are given
abbrev pub inner : {M : Type 0} → CacheMangler M → M
inner s = s.mangler

-- the item that a name was last given for
abbrev pub record_of : {M : Type 0} → CacheMangler M → Text → Option (Path × Text)
record_of s name = option_map item_view (get_by_text s.items name)

-- the item that a name is read as: the one that it was last given for, else as the mangler reads it whose names are given
abbrev pub item_in : {M : Type 0} → (M → Text → Option (Path × Text)) → CacheMangler M → Text → Option (Path × Text)
item_in item_of s name = option_or (record_of s name) (item_of (inner s) name)

-- what numbers the items
abbrev pub hasher_of : {H : Type 0} → HashMangler H → H
hasher_of s = s.hasher
