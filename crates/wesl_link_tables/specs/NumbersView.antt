-- The names and paths that a numbering of the code holds.
use Rattle.wesl_link_tables.specs.Numbering.{Numbering}
use Rattle.wesl_link_tables.specs.declared.numbers.Numbers.{Numbers}
pub use Rattle.wesl_tree_interner.specs.Interned.{texts_of as names_of}
pub use Rattle.wesl_link_paths.specs.NumbersView.{paths_of}

-- the names and the paths that have numbers
abbrev pub numbering : Numbers → Numbering
numbering n = record { names = names_of n.names; paths = paths_of n.paths }
