use Rattle.std.proofs.Common.{◌≡◌, ℕ, ◌<◌, ◌||◌, length, map, drop}
use Rattle.std.specs.List.{list_any}
use Rattle.wesl_scope_occurrences.specs.Views.{occurrence_view}
use Rattle.wesl_scope_strip.specs.Marks.{mark_at}
use Rattle.wesl_scope_numbers.specs.Test.{has_number}
use Rattle.wesl_scope_clashes.proofs.bound.mark_binders.Given as goal

abbrev pub invariant-loop-occurrence : goal.invariant-loop-occurrence
invariant-loop-occurrence l = (m : ℕ) → m < length l.initial.marks → (mark_at l.marks m || list_any (has_number m) (map occurrence_view (drop l.occurrence-index l.all))) ≡ (mark_at l.initial.marks m || list_any (has_number m) (map occurrence_view l.all))
