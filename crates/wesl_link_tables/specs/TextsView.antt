-- The names and paths that numbers stand for, once each that is wanted has one.
use Rattle.std.specs.Prelude.{List, map, string_bytes}
use Rattle.wesl_tree_names.specs.Path.{Text}
use Rattle.wesl_link_tables.specs.Numbering.{Numbering}
use Rattle.wesl_link_tables.specs.declared.texts.NameTexts.{NameTexts}
use Rattle.wesl_link_tables.specs.declared.texts.NumberTexts.{NumberTexts}
pub use Rattle.wesl_link_paths.specs.TextsView.{paths_told}

-- the names in the order of their numbers
abbrev pub names_told : NameTexts → List Text
names_told t = map string_bytes t.texts.items

-- the names and the paths that the numbers of a link stand for
abbrev pub numbering_of_texts : NumberTexts → Numbering
numbering_of_texts t = record { names = names_told t.names; paths = paths_told t.paths }
