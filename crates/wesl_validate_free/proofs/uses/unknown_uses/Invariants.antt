use Rattle.std.proofs.Common.{◌≡◌, map, take}
use Rattle.wesl_scope_occurrences.specs.Views.{occurrence_view}
use Rattle.wesl_validate_free.specs.Gathered.{uses_view, uses_among}
use Rattle.wesl_validate_free.proofs.uses.unknown_uses.Given as goal

abbrev pub invariant-loop-occurrence : goal.invariant-loop-occurrence
invariant-loop-occurrence l = uses_view l.uses.items ≡ uses_among l.known.items l.names (map occurrence_view (take l.occurrence-index l.found.all.items))
