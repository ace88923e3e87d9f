-- What the values of the code stand for.
use Rattle.std.specs.Prelude.{ℕ}
use Rattle.wesl_link_symbols.specs.declared.ids.PathId.{PathId}
use Rattle.wesl_tree_base.specs.declared.ids.NameId.{NameId}
use Rattle.wesl_link_assembly.specs.Denotations.{DenotationOf, symbol, local, free_name}
use Rattle.wesl_link_assembly.specs.declared.denotation.Denotation.{Denotation}
use Rattle.wesl_link_assembly.specs.declared.denotation.Denotation.TheVariants as made

-- paths and names by their numbers, and blocks by theirs
abbrev pub Meaning : Type 0
Meaning = DenotationOf PathId NameId ℕ

-- what a value of the code says that an identifier stands for
abbrev pub denotation_view : Denotation → Meaning
denotation_view (made.Symbol s) = symbol s.path s.name
denotation_view (made.Local p b n) = local p b n.now
denotation_view (made.Free n) = free_name n.now
