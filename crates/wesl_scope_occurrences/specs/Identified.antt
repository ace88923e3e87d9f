-- The identifiers that a call has found.
use Rattle.std.specs.Prelude.{ℕ, List, map}
use Rattle.wesl_scope_occurrences.specs.Occurrences.{Occurrence}
use Rattle.wesl_scope_occurrences.specs.Views.{occurrence_view}
use Rattle.wesl_scope_occurrences.specs.Ways.{way, told}
use Rattle.wesl_scope_occurrences.specs.declared.whole.Identifiers.{Identifiers}

-- each with the way of its block
abbrev pub identified : Identifiers → List (Occurrence ℕ)
identified found = map (told (way found.outer.items)) (map occurrence_view found.all.items)
