use Rattle.std.proofs.Common.{◌≡◌, ℕ, map, take}
use Rattle.std.specs.Prelude.{flat_map}
use Rattle.wesl_scope_occurrences.specs.Views.{occurrence_view}
use Rattle.wesl_validate_rules.specs.Graphs.{graph_view, edges_at, IsClosed}
use Rattle.wesl_validate_rules.specs.Steps.{used_by, steps_here}
use Rattle.wesl_validate_rules.proofs.steps.steps_of.Given as goal

abbrev pub invariant-loop-occurrence : goal.invariant-loop-occurrence
invariant-loop-occurrence l = record {
  added : (a : ℕ) → edges_at (graph_view l.graph.items) a ≡ flat_map (steps_here (used_by (graph_view l.uses.items)) a) (map occurrence_view (take l.occurrence-index l.found.all.items));
  closed : IsClosed (graph_view l.graph.items);
}
