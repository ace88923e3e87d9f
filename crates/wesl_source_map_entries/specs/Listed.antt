-- A list of the names that are recorded.
use Rattle.std.specs.Prelude.{◌≡◌, List}
use Rattle.std.specs.Str.{bytes_eq}
use Rattle.std.specs.Cmp.Lexicographic.{slice_cmp}
use Rattle.std.specs.Ordering.{nat_cmp}
use Rattle.std.specs.List.Sorted.{IsStrictlySortedBy}
use Rattle.std.specs.Map.{lookup, keys_of}
use Rattle.wesl_tree_names.specs.Path.{Text}
use Rattle.wesl_source_map_entries.specs.Records.{Item, Items}

-- every name that stands for an item, with that item, and no other name; each once, in the order of their bytes
pub record IsListing (items : Items) (listing : List (Text × Item)) : Type 0 where
  pub ascend : IsStrictlySortedBy (slice_cmp nat_cmp) (keys_of listing)
  pub all : (name : Text) → lookup (bytes_eq name) listing ≡ items name
