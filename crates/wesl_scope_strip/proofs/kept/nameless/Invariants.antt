use Rattle.std.proofs.Common.{◌≡◌, ℕ, ◌<◌, not, ◌&&◌, length, map, drop}
use Rattle.wesl_scope_occurrences.specs.Views.{occurrence_view}
use Rattle.wesl_scope_strip.specs.Marks.{mark_at, has_name}
use Rattle.wesl_scope_strip.proofs.kept.nameless.Given as goal

abbrev pub invariant-loop-occurrence : goal.invariant-loop-occurrence
invariant-loop-occurrence l = record {
  all : length l.kept.items ≡ l.count;
  marked : (j : ℕ) → j < l.count → (mark_at l.kept.items j && not (has_name (map occurrence_view (drop l.occurrence-index l.all)) j)) ≡ not (has_name (map occurrence_view l.all) j);
}
