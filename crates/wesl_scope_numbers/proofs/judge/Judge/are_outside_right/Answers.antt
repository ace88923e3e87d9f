use Rattle.std.proofs.Common.{◌&&◌, ap₂, add-one}
use Rattle.wesl_scope_numbers.proofs.judge.Judge.are_outside_right.Goals as goal

pub loop-number-preserved : goal.loop-number-preserved
loop-number-preserved c = rw add-one (ap₂ (λ a b. a && b) c.loop-number.invariant c.is_outside_right-are_right.ensures)
