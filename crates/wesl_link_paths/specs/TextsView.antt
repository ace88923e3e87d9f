-- The paths that numbers stand for, once each that is wanted has one.
use Rattle.std.specs.Prelude.{List, map, string_bytes}
use Rattle.wesl_tree_names.specs.Path.{Text, Path}
use Rattle.wesl_link_paths.specs.Nodes.{paths_by}
use Rattle.wesl_link_paths.specs.declared.texts.PathTexts.{PathTexts}

-- the parts of paths, in the order of their numbers
abbrev pub parts_told : PathTexts → List Text
parts_told t = map string_bytes t.parts.items

-- the paths in the order of their numbers
abbrev pub paths_told : PathTexts → List Path
paths_told t = paths_by (parts_told t) t.nodes.items
