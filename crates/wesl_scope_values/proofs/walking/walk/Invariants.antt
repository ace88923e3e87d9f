use Rattle.std.proofs.Common.{◌+◌, ◌-◌, length}
use Rattle.wesl_scope_graph.specs.Graphs.{graph_view}
use Rattle.wesl_scope_graph.specs.Marks.{unmarked}
use Rattle.wesl_scope_values.specs.Walks.{visits}
use Rattle.wesl_scope_values.proofs.Walked.{Reaching}
use Rattle.wesl_scope_values.proofs.walking.walk.Given as goal

abbrev pub invariant-loop-next : goal.invariant-loop-next
invariant-loop-next l = Reaching (graph_view l.graph.items) l.first.items l.fn.marks l.next (visits l.marks l.nodes.items)

abbrev pub decreases-loop-next : goal.decreases-loop-next
decreases-loop-next l = (unmarked l.marks + length l.nodes.items) - l.next
