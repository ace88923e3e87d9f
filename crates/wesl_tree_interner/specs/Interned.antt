-- Texts that have numbers: each text once, its number its place.
use Rattle.std.specs.Prelude.{bytes_eq, List, [], ◌∷◌, ◌++◌, if◌then◌else◌, map, string_bytes}
use Rattle.std.specs.List.{list_any}
use Rattle.wesl_tree_names.specs.Path.{Text}
use Rattle.wesl_tree_interner.specs.declared.interner.Interner.{Interner}

-- the texts that have numbers, in their order
abbrev pub texts_of : Interner → List Text
texts_of i = map string_bytes i.names.keys

-- the texts with one more, which goes last unless it is there
abbrev pub with_text : List Text → Text → List Text
with_text old x = if list_any (bytes_eq x) old then old else old ++ x ∷ []
