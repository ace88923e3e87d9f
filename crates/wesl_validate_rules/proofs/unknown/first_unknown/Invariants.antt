use Rattle.std.proofs.Common.{◌≡◌, map, drop}
use Rattle.std.specs.List.{find}
use Rattle.wesl_scope_occurrences.specs.Views.{occurrence_view}
use Rattle.wesl_validate_rules.specs.Known.{is_unknown}
use Rattle.wesl_validate_rules.proofs.unknown.first_unknown.Given as goal

abbrev pub invariant-loop-occurrence : goal.invariant-loop-occurrence
invariant-loop-occurrence l = find (is_unknown l.known.items) (map occurrence_view l.found.all.items) ≡ find (is_unknown l.known.items) (map occurrence_view (drop l.occurrence-index l.found.all.items))
