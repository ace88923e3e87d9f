use Rattle.std.proofs.Common.{◌≡◌, ◌<◌, ℕ, true, length}
use Rattle.wesl_scope_graph.specs.Graphs.{graph_view}
use Rattle.wesl_scope_graph.specs.Marks.{mark_at}
use Rattle.wesl_scope_groups.specs.Groups.{IsGrouping}
use Rattle.wesl_scope_groups.proofs.groups.groups_of.Given as goal

abbrev pub invariant-loop-node : goal.invariant-loop-node
invariant-loop-node l = record {
  grouping : IsGrouping (graph_view l.graph.items) (graph_view l.back.items) l.done.items l.outside.items l.groups.items;
  met : (m : ℕ) → m < l.node → m < length (graph_view l.graph.items) → mark_at l.done.items m ≡ true;
}
