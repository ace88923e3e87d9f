use Rattle.std.proofs.Common.{◌≡◌, ◌<◌, length, get_or, ap, arith}
use Rattle.wesl_scope_graph.proofs.Meeting.{meets_next}
use Rattle.wesl_scope_graph.proofs.walk.enter_all.Goals as goal

pub loop-target-preserved : goal.loop-target-preserved
loop-target-preserved c =
    let at = c.loop-target in
    let ns = c.args.targets.now.items in
    let same : c.deref-target-items.result.now ≡ ns = c.deref-target-items.ensures.value in
    let inside : at.target-index < length ns = omega (arith, ap length same, c.loop-target-test.true) in
    meets_next ns at.target-index _ c.args.marks.now at.marks c.enter.new.marks c.args.way.now.items at.way.items c.enter.new.way.items
    inside (ap (λ xs. get_or xs at.target-index 0) same) at.invariant c.in_ok-enter.ensures
