-- What a basic source map knows.
use Rattle.std.specs.Prelude.{◌≡◌, Option}
use Rattle.wesl_tree_names.specs.Path.{Text}
use Rattle.wesl_source_map_entries.specs.Records.{Items, Sources, SameItems, SameSources}
use Rattle.wesl_source_map_entries.specs.Held.{held_items, held_sources, held_default}
use Rattle.wesl_source_map.specs.declared.basic.BasicSourceMap.{BasicSourceMap}

-- the item that a name was last given for
abbrev pub items : BasicSourceMap → Items
items m = held_items m.entries

-- what was last said of a module
abbrev pub sources : BasicSourceMap → Sources
sources m = held_sources m.entries

-- the source of what is in no module
abbrev pub default_text : BasicSourceMap → Option Text
default_text m = held_default m.entries

-- both know the same
pub record KnowsTheSame (old new : BasicSourceMap) : Type 0 where
  pub decls : SameItems (items old) (items new)
  pub modules : SameSources (sources old) (sources new)
  pub default : default_text new ≡ default_text old
