use Rattle.std.proofs.Common.{◌≡◌, take}
use Rattle.std.specs.List.{filter}
use Rattle.wesl_validate_faults.specs.Gathered.{have_one_group}
use Rattle.wesl_validate_faults.proofs.closers.filtered.Given as goal

abbrev pub invariant-loop-node : goal.invariant-loop-node
invariant-loop-node l = l.within.items ≡ filter (have_one_group l.groups.items l.last) (take l.node-index l.nodes.items)
