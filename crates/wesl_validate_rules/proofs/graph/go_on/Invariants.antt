use Rattle.std.proofs.Common.{◌≢◌, ℕ, length, reverse, ◌+◌, ◌*◌, sum}
use Rattle.wesl_validate_rules.specs.Graphs.{graph_view}
use Rattle.wesl_validate_rules.specs.Searches.{IsSearch, stage_at}
use Rattle.wesl_validate_rules.specs.declared.graph.Mark.TheVariants.{New}
use Rattle.wesl_validate_rules.proofs.graph.go_on.Given as goal

abbrev pub invariant-loop-node : goal.invariant-loop-node
invariant-loop-node l = record {
  search : IsSearch (graph_view l.graph) l.marks l.left (reverse l.way.items);
  met : (a : ℕ) → stage_at l.initial.marks a ≢ New → stage_at l.marks a ≢ New;
}

abbrev pub decreases-loop-node : goal.decreases-loop-node
decreases-loop-node l = 2 * sum l.left + length l.way.items
