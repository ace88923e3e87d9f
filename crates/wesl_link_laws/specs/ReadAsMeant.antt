-- That names are read as meant, as a law says it.
use Rattle.std.specs.Prelude.{◌↔◌, ℕ, List}
use Rattle.wesl_tree_names.specs.Path.{Text, Path}
use Rattle.wesl_tree_syntax.specs.Unit.{UnitOf, UnitView}
use Rattle.wesl_scope_numbers.specs.Faithful.{IsFaithful}
use Rattle.wesl_link_assembly.specs.Denotations.{DenotationOf}
use Rattle.wesl_link_assembly.specs.Linked.{IsLinkedAs}
use Rattle.wesl_link_laws.specs.Reading.{IsReadAsMeant}

-- a linked unit is faithful exactly where plain scoping of its printed names gives each reference what it denotes
abbrev pub FaithfulReadsAsMeant : Type 0
FaithfulReadsAsMeant =
    (print : DenotationOf Path Text ℕ → Text) (nodes : UnitOf Text) (denotations : List (DenotationOf Path Text ℕ)) (unit : UnitView)
    → IsLinkedAs print nodes denotations unit
    → IsFaithful unit ↔ IsReadAsMeant print denotations unit
