use Rattle.std.proofs.Common.{◌≡◌, map, take}
use Rattle.wesl_scope_graph.specs.Graphs.{graph_view}
use Rattle.wesl_scope_occurrences.specs.Views.{occurrence_view}
use Rattle.wesl_validate_faults.specs.Gathered.{uses_view, uses_among}
use Rattle.wesl_validate_faults.proofs.uses.uses_of.Given as goal

abbrev pub invariant-loop-occurrence : goal.invariant-loop-occurrence
invariant-loop-occurrence l = uses_view l.uses.items ≡ uses_among l.names l.known.items (graph_view l.holders.items) (map occurrence_view (take l.occurrence-index l.found.all.items))
