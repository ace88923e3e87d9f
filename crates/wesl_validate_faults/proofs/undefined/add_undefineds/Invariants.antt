use Rattle.std.proofs.Common.{◌≡◌, ◌++◌, map, take}
use Rattle.std.specs.Prelude.{flat_map}
use Rattle.wesl_scope_graph.specs.Graphs.{graph_view}
use Rattle.wesl_scope_occurrences.specs.Views.{occurrence_view}
use Rattle.wesl_validate_faults.specs.Gathered.{findings_view, undefined_here}
use Rattle.wesl_validate_faults.proofs.undefined.add_undefineds.Given as goal

abbrev pub invariant-loop-occurrence : goal.invariant-loop-occurrence
invariant-loop-occurrence l =
    findings_view l.findings.items ≡ findings_view l.initial.findings.items ++ flat_map (undefined_here l.names l.known.items (graph_view l.holders.items)) (map occurrence_view (take l.occurrence-index l.found.all.items))
