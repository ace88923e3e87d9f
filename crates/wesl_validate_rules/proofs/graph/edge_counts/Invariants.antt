use Rattle.std.proofs.Common.{◌≡◌, length, map, take}
use Rattle.wesl_validate_rules.proofs.graph.edge_counts.Given as goal

abbrev pub invariant-loop-edges : goal.invariant-loop-edges
invariant-loop-edges l = l.left.items ≡ map (λ v. length v.items) (take l.edges-index l.graph)
