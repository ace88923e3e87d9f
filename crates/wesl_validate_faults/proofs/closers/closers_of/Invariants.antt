use Rattle.std.proofs.Common.{take}
use Rattle.wesl_scope_graph.specs.Graphs.{graph_view}
use Rattle.wesl_validate_faults.specs.Gathered.{AreClosers}
use Rattle.wesl_validate_faults.proofs.closers.closers_of.Given as goal

abbrev pub invariant-loop-last : goal.invariant-loop-last
invariant-loop-last l = AreClosers (graph_view l.graph.items) (take l.last-index l.nodes.items) l.taken.items l.closers.items
