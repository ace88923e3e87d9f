-- The paths that have numbers.
use Rattle.std.specs.Prelude.{List}
use Rattle.wesl_tree_names.specs.Path.{Text, Path}
use Rattle.wesl_tree_interner.specs.Interned.{texts_of}
use Rattle.wesl_link_paths.specs.Nodes.{paths_by}
use Rattle.wesl_link_paths.specs.declared.numbers.PathNumbers.{PathNumbers}

-- the parts of paths, in the order of their numbers
abbrev pub parts_of : PathNumbers → List Text
parts_of n = texts_of n.parts

-- the paths that have numbers, in the order of these
abbrev pub paths_of : PathNumbers → List Path
paths_of n = paths_by (parts_of n) n.nodes.keys
