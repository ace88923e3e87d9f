use Rattle.std.proofs.Common.{◌≡◌, ℕ, map, take}
use Rattle.wesl_scope_graph.specs.Graphs.{graph_view, edges_at}
use Rattle.wesl_scope_occurrences.specs.Views.{occurrence_view}
use Rattle.wesl_validate_faults.specs.Gathered.{named_in}
use Rattle.wesl_validate_faults.proofs.undefined.holders_of.Given as goal

abbrev pub invariant-loop-occurrence : goal.invariant-loop-occurrence
invariant-loop-occurrence l = (j : ℕ) → edges_at (graph_view l.holders.items) j ≡ named_in (map occurrence_view (take l.occurrence-index l.found.all.items)) j
