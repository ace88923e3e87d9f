use Rattle.std.proofs.Common.{◌≡◌, map, take}
use Rattle.wesl_scope_occurrences.specs.Views.{occurrence_view}
use Rattle.wesl_validate_faults.specs.Gathered.{placed_among}
use Rattle.wesl_validate_faults.proofs.members.placed_names.Given as goal

abbrev pub invariant-loop-occurrence : goal.invariant-loop-occurrence
invariant-loop-occurrence l = l.placed.items ≡ placed_among (map occurrence_view (take l.occurrence-index l.found.all.items))
