use Rattle.std.proofs.Common.{◌≡◌, map, take}
use Rattle.wesl_scope_graph.specs.Graphs.{graph_view}
use Rattle.wesl_validate_faults.specs.Gathered.{findings_view, misfit_here}
use Rattle.wesl_validate_faults.proofs.calls.findings_of.Given as goal

abbrev pub invariant-loop-entry : goal.invariant-loop-entry
invariant-loop-entry l = findings_view l.findings.items ≡ map (λ p. misfit_here l.names (graph_view l.holders.items) p.0 p.1) (take l.entry-index l.misfits.items)
