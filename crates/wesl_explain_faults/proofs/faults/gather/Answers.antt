use Rattle.wesl_explain_faults.specs.Gathering.{wrong_at}
use Rattle.wesl_explain_faults.proofs.Gathering.{have_more, map_on}
use Rattle.wesl_explain_faults.proofs.faults.gather.Goals as goal

pub loop-wrong-preserved : goal.loop-wrong-preserved
loop-wrong-preserved c = record {
  same = map_on wrong_at c.args.wrongs.now c.loop-wrong.wrong-index _ _ _ _ c.loop-wrong-test.true c.loop-wrong.invariant.same c.in_ok-fault_at.ensures.wrong c.in_ok-push.ensures.items;
  askers = have_more c.args.ties.now.told.now _ _ _ c.in_ok-push.ensures.items c.loop-wrong.invariant.askers c.in_ok-fault_at.ensures.askers;
}
