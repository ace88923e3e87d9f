use Rattle.std.proofs.Common.{◌≡◌, ◌||◌, ℕ, map, drop}
use Rattle.std.specs.List.{list_any}
use Rattle.wesl_scope_occurrences.specs.Views.{occurrence_view}
use Rattle.wesl_scope_strip.specs.Marks.{mark_at}
use Rattle.wesl_validate_rules.specs.Known.{binds_here}
use Rattle.wesl_validate_calls.proofs.numbers.bound_numbers.Given as goal

abbrev pub invariant-loop-occurrence : goal.invariant-loop-occurrence
invariant-loop-occurrence l = (m : ℕ) → (mark_at l.bound.items m || list_any (binds_here m) (map occurrence_view (drop l.occurrence-index l.found.all.items))) ≡ list_any (binds_here m) (map occurrence_view l.found.all.items)
