use Rattle.std.proofs.Common.{drop}
use Rattle.wesl_scope_graph.specs.Graphs.{graph_view}
use Rattle.wesl_validate_faults.specs.Gathered.{findings_view}
use Rattle.wesl_validate_faults.proofs.Rings.{Owes}
use Rattle.wesl_validate_faults.proofs.cycles.add_rings.Given as goal

abbrev pub invariant-loop-number : goal.invariant-loop-number
invariant-loop-number l = Owes l.names (graph_view l.graph.items) l.declared.items (findings_view l.initial.findings.items) (findings_view l.findings.items) (drop l.number-index l.declared.items)
