use Rattle.wesl_explain_faults.proofs.Gathering.{all_found, first_next, found_next}
use Rattle.wesl_explain_faults.proofs.faults.wrongs_in.Goals as goal

pub loop-finding-preserved : goal.loop-finding-preserved
loop-finding-preserved c = record {
  keys = c.in_ok-put.ensures.keys;
  all = first_next c.args.told.now c.loop-finding.finding-index _ _ _ c.wrong_in.result c.loop-finding-test.true c.wrong_in.ensures c.in_ok-put.ensures.puts c.loop-finding.invariant.all;
  only = found_next c.args.told.now c.loop-finding.finding-index _ _ _ c.wrong_in.result c.loop-finding-test.true c.wrong_in.ensures c.in_ok-put.ensures.puts c.loop-finding.invariant.only;
}

pub returns : goal.returns
returns c =
    all_found c.args.told.now c.loop-finding.finding-index _ _ c.loop-finding-test.false c.into_list.ensures c.loop-finding.invariant.keys.once c.loop-finding.invariant.all c.loop-finding.invariant.only
