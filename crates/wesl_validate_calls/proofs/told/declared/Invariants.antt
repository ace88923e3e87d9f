use Rattle.std.proofs.Common.{◌≡◌, map, drop}
use Rattle.std.specs.List.{find}
use Rattle.wesl_scope_occurrences.specs.Views.{occurrence_view}
use Rattle.wesl_scope_strip.specs.Marks.{names_here}
use Rattle.wesl_validate_calls.proofs.told.declared.Given as goal

abbrev pub invariant-loop-occurrence : goal.invariant-loop-occurrence
invariant-loop-occurrence l = find (names_here l.declaration) (map occurrence_view l.found.all.items) ≡ find (names_here l.declaration) (map occurrence_view (drop l.occurrence-index l.found.all.items))
