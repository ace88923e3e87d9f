use Rattle.wesl_explain_faults.proofs.Gathering.{tie_next}
use Rattle.wesl_explain_faults.proofs.faults.tie.Goals as goal

pub loop-index-preserved : goal.loop-index-preserved
loop-index-preserved c =
    tie_next c.args.told.now c.loop-index.index _ c.wrong_in-wrong.result c.value_at.result _ _ _ _ c.loop-index-test.true c.wrong_in-wrong.ensures c.loop-index.invariant
    c.value_at.ensures.found c.value_at.ensures.none c.in_ok-put.ensures.puts c.in_ok-push.ensures.items
