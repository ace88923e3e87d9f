use Rattle.std.proofs.Common.{arith}
use Rattle.wesl_visit_collect.proofs.Adds.{walked_all, walked_next, walked_none}
use Rattle.wesl_visit_collect.proofs.collect.statement.in_selectors.Goals as goal

pub loop-selector-init : goal.loop-selector-init
loop-selector-init g c =
    walked_none

pub loop-selector-preserved : goal.loop-selector-preserved
loop-selector-preserved g c =
    walked_next c.selector-item.result (omega arith) c.selector-item.is c.loop-selector.invariant c.in_selector.ensures

pub returns : goal.returns
returns g c =
    walked_all (omega arith) c.deref-selector-items.ensures.value c.loop-selector.invariant
