use Rattle.std.proofs.Common.{take}
use Rattle.wesl_scope_graph.specs.Graphs.{graph_view, IsClosed}
use Rattle.wesl_scope_values.specs.Values.{AddsFromEach}
use Rattle.wesl_scope_values.proofs.turning.add_from_each.Given as goal

abbrev pub invariant-loop-node : goal.invariant-loop-node
invariant-loop-node l = record {
  added : AddsFromEach (take l.node-index l.nodes.items) l.to (graph_view l.initial.graph.items) (graph_view l.graph.items);
  closed : IsClosed (graph_view l.initial.graph.items) → IsClosed (graph_view l.graph.items);
}
