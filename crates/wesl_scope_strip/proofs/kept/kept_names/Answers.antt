use Rattle.wesl_scope_strip.proofs.Sets.{one_more}
use Rattle.wesl_scope_strip.proofs.kept.kept_names.Goals as goal

pub loop-i-preserved : goal.loop-i-preserved
loop-i-preserved c = λ n.
    one_more c.args.keep.now c.loop-i.i c.name_at.result n.now _ _ c.loop-i-test.true c.name_at.ensures (c.loop-i.invariant n) (c.in_ok-insert.ensures.updates.0 n)
