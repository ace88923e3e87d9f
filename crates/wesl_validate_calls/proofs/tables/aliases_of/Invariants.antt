use Rattle.std.proofs.Common.{◌≡◌, ℕ, map, take}
use Rattle.wesl_scope_occurrences.specs.Views.{occurrence_view}
use Rattle.wesl_validate_rules.specs.Graphs.{graph_view, edges_at, IsClosed}
use Rattle.wesl_validate_calls.specs.Tables.{alias_target, edges_of}
use Rattle.wesl_validate_calls.specs.Views.{shape_view}
use Rattle.wesl_validate_calls.proofs.tables.aliases_of.Given as goal

abbrev pub invariant-loop-occurrence : goal.invariant-loop-occurrence
invariant-loop-occurrence l = record {
  edges : (m : ℕ) → edges_at (graph_view l.aliases.items) m ≡ edges_of (alias_target (map shape_view l.shapes.items)) m (map occurrence_view (take l.occurrence-index l.found.all.items));
  closed : IsClosed (graph_view l.aliases.items);
}
