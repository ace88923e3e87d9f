use Rattle.std.proofs.Common.{◌≡◌, ◌++◌, ◌==◌, ℕ, [], take}
use Rattle.std.specs.Prelude.{if◌then◌else◌}
use Rattle.wesl_validate_rules.specs.Graphs.{graph_view, edges_at, IsClosed}
use Rattle.wesl_validate_rules.proofs.steps.add_edges.Given as goal

abbrev pub invariant-loop-target : goal.invariant-loop-target
invariant-loop-target l = record {
  added : (a : ℕ) → edges_at (graph_view l.graph.items) a ≡ edges_at (graph_view l.initial.graph.items) a ++ (if l.from == a then take l.target-index l.targets.items else []);
  closed : IsClosed (graph_view l.initial.graph.items) → IsClosed (graph_view l.graph.items);
}
