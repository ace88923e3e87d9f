use Rattle.std.proofs.Common.{◌≡◌, map, take}
use Rattle.wesl_explain_faults.specs.Told.{fault_view, link_view}
use Rattle.wesl_explain_faults.proofs.refused.told_all.Given as goal

abbrev pub invariant-loop-fault : goal.invariant-loop-fault
invariant-loop-fault l = map link_view l.faults.items ≡ take l.fault-index (map fault_view l.found)
