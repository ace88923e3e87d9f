use Rattle.wesl_scope_graph.specs.Graphs.{graph_view}
use Rattle.wesl_scope_values.specs.Walks.{AreFirst}
use Rattle.wesl_scope_values.proofs.handing.least_values.Given as goal

abbrev pub invariant-loop-value : goal.invariant-loop-value
invariant-loop-value l = AreFirst (graph_view l.graph.items) (graph_view l.told.items) l.value l.marks.items l.values.items
