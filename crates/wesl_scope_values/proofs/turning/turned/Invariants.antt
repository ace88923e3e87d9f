use Rattle.wesl_scope_graph.specs.Graphs.{graph_view, IsClosed}
use Rattle.wesl_scope_values.proofs.Edges.{AreTurned}
use Rattle.wesl_scope_values.proofs.turning.turned.Given as goal

abbrev pub invariant-loop-node : goal.invariant-loop-node
invariant-loop-node l = record {
  turned : AreTurned (graph_view l.graph.items) l.node (graph_view l.turned.items);
  closed : IsClosed (graph_view l.turned.items);
}
