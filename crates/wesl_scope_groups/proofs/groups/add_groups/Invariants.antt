use Rattle.wesl_scope_graph.specs.Graphs.{graph_view}
use Rattle.wesl_scope_groups.specs.Groups.{IsGrouping}
use Rattle.wesl_scope_groups.proofs.groups.add_groups.Given as goal

abbrev pub invariant-loop-node : goal.invariant-loop-node
invariant-loop-node l = IsGrouping (graph_view l.graph.items) (graph_view l.back.items) l.done l.outside l.groups.items
