use Rattle.std.proofs.Common.{◌≡◌, ◌↔◌, ◌<◌, ℕ, true}
use Rattle.std.specs.List.{Contains}
use Rattle.wesl_scope_graph.specs.Marks.{mark_at}
use Rattle.wesl_scope_graph.proofs.walk.marked_nodes.Given as goal

abbrev pub invariant-loop-node : goal.invariant-loop-node
invariant-loop-node l = (a : ℕ) → Contains l.nodes.items a ↔ ((a < l.node) × (mark_at l.marks a ≡ true))
