use Rattle.std.proofs.Common.{◌≡◌, ◌≢◌, ℕ, ◌<◌, []}
use Rattle.wesl_validate_rules.specs.Graphs.{graph_view}
use Rattle.wesl_validate_rules.specs.Searches.{IsSearch, stage_at}
use Rattle.wesl_validate_rules.specs.declared.graph.Mark.TheVariants.{New}
use Rattle.wesl_validate_rules.proofs.graph.ring.Given as goal

abbrev pub invariant-loop-start : goal.invariant-loop-start
invariant-loop-start l = record {
  search : IsSearch (graph_view l.graph) l.marks.items l.left.items [];
  empty : l.way.items ≡ [];
  met : (a : ℕ) → a < l.start → stage_at l.marks.items a ≢ New;
}
