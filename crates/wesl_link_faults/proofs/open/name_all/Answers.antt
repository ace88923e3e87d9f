use Rattle.wesl_link_faults.proofs.Opening.{named_on, right_on, told_same}
use Rattle.wesl_link_faults.proofs.open.name_all.Goals as goal

pub loop-found-preserved : goal.loop-found-preserved
loop-found-preserved c = record {
  same = named_on c.args.told.now c.loop-found.found-index _ _ _ _ c.loop-found-test.true c.loop-found.invariant.same (told_same _ c.fault_of.result c.fault_of.ensures.0) c.in_ok-push.ensures.items;
  right = right_on c.args.absent.now.entries _ _ _ c.loop-found.invariant.right c.fault_of.ensures.1 c.in_ok-push.ensures.items;
}
