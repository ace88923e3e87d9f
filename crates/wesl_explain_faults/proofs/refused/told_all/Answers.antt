use Rattle.wesl_explain_faults.specs.Told.{fault_view, link_view}
use Rattle.wesl_explain_faults.proofs.Gathering.{maps_on}
use Rattle.wesl_explain_faults.proofs.refused.told_all.Goals as goal

pub loop-fault-preserved : goal.loop-fault-preserved
loop-fault-preserved c =
    maps_on link_view fault_view c.args.found.now c.loop-fault.fault-index _ _ _ c.fault-item.result c.loop-fault-test.true c.fault-item.is c.in_ok-told_of.ensures c.loop-fault.invariant
    c.in_ok-push.ensures.items
