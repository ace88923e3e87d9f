-- What entries hold.
use Rattle.std.specs.Prelude.{◌≡◌, Option, Some, None, option_map, string_bytes}
use Rattle.wesl_tree_names.specs.Path.{Text}
use Rattle.wesl_source_map_entries.specs.Records.{Source, Items, Sources, SameItems, SameSources}
use Rattle.wesl_source_map_entries.specs.Tables.{items_in, sources_in}
use Rattle.wesl_source_map_entries.specs.declared.entries.Entries.{Entries}

-- the item that a name was last given for
abbrev pub held_items : Entries → Items
held_items e = items_in e.decls

-- what was last said of a module
abbrev pub held_sources : Entries → Sources
held_sources e = sources_in e.sources.entries

-- the source of what is in no module
abbrev pub held_default : Entries → Option Text
held_default e = option_map string_bytes e.default_source

-- the source that is said of a module, else the text that was there
abbrev pub source_or : Option Source → Option Text → Option Text
source_or (Some source) text = Some source.1
source_or None text = text

-- both hold the same
pub record HoldsTheSame (old new : Entries) : Type 0 where
  pub decls : SameItems (held_items old) (held_items new)
  pub modules : SameSources (held_sources old) (held_sources new)
  pub default : held_default new ≡ held_default old
