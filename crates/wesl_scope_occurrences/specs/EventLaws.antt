-- A law of events, as a function of the crate cites it.
use Rattle.std.specs.Prelude.{◌≡◌, ℕ, map}
use Rattle.wesl_tree_syntax.specs.Unit.{UnitOf}
use Rattle.wesl_scope_occurrences.specs.Occurrences.{occurrences}
use Rattle.wesl_scope_occurrences.specs.Ways.{told, way}
use Rattle.wesl_scope_occurrences.specs.Outer.{outers}
use Rattle.wesl_scope_occurrences.specs.Events.{events}
use Rattle.wesl_scope_occurrences.specs.Collected.{nothing, collected}

-- what is collected from the events of a module are its occurrences, where each block is told by its way
abbrev pub EventsAreOccurrences : Type 0
EventsAreOccurrences = (u : UnitOf ℕ) → map (told (way (outers u))) (collected nothing (events u)).found ≡ occurrences u
