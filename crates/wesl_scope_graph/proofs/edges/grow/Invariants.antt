use Rattle.std.proofs.Common.{◌≡◌, ◌≤◌, ◌-◌, ℕ, suc, length}
use Rattle.wesl_scope_graph.specs.Graphs.{graph_view, edges_at}
use Rattle.wesl_scope_graph.proofs.edges.grow.Given as goal

abbrev pub invariant-loop-alloc : goal.invariant-loop-alloc
invariant-loop-alloc l = record {
  more : length l.initial.graph.items ≤ length l.graph.items;
  same : (a : ℕ) → edges_at (graph_view l.graph.items) a ≡ edges_at (graph_view l.initial.graph.items) a;
}

abbrev pub decreases-loop-alloc : goal.decreases-loop-alloc
decreases-loop-alloc l = suc l.node - length l.graph.items
