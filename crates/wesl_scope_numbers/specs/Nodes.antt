-- Modules that differ in the numbers of their identifiers alone.
use Rattle.std.specs.Prelude.{◌≡◌}
use Rattle.wesl_tree_syntax.specs.Unit.{UnitView, forest_of_unit, trees_of, numbers}
use Rattle.wesl_tree_copies.specs.Renumbered.{renumbered}

-- one module has the nodes of the other, spans too, but for the numbers of the identifiers
abbrev pub HasSameNodes : UnitView → UnitView → Type 0
HasSameNodes old new = forest_of_unit (trees_of new) ≡ renumbered (forest_of_unit (trees_of old)) (numbers new)
