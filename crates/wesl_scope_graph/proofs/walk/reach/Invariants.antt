use Rattle.std.proofs.Common.{◌+◌, length}
use Rattle.wesl_scope_graph.specs.Graphs.{graph_view}
use Rattle.wesl_scope_graph.specs.Marks.{unmarked}
use Rattle.wesl_scope_graph.proofs.Reaching.{Reaching}
use Rattle.wesl_scope_graph.proofs.walk.reach.Given as goal

abbrev pub invariant-loop-node : goal.invariant-loop-node
invariant-loop-node l = Reaching (graph_view l.graph) l.initial.marks l.marks l.way.items

abbrev pub decreases-loop-node : goal.decreases-loop-node
decreases-loop-node l = unmarked l.marks + length l.way.items
