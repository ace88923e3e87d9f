use Rattle.std.proofs.Common.{◌≡◌, map, take}
use Rattle.wesl_scope_graph.specs.Graphs.{graph_view}
use Rattle.wesl_validate_faults.specs.Gathered.{misfitting_here, misfitting_view}
use Rattle.wesl_validate_faults.proofs.misfitting.misfit_calls_of.Given as goal

abbrev pub invariant-loop-misfit : goal.invariant-loop-misfit
invariant-loop-misfit l = misfitting_view l.calls.items ≡ map (misfitting_here l.names (graph_view l.holders.items)) (take l.misfit-index l.misfits.items)
