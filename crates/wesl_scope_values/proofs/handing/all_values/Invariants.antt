use Rattle.wesl_scope_graph.specs.Graphs.{graph_view}
use Rattle.wesl_scope_values.specs.Walks.{AreHandedOn}
use Rattle.wesl_scope_values.proofs.handing.all_values.Given as goal

abbrev pub invariant-loop-value : goal.invariant-loop-value
invariant-loop-value l = AreHandedOn (graph_view l.graph.items) (graph_view l.told.items) l.value l.marks.items (graph_view l.values.items)
