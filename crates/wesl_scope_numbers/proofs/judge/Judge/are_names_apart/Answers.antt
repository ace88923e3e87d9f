use Rattle.std.proofs.Common.{◌&&◌, ap₂, add-one}
use Rattle.wesl_scope_numbers.proofs.judge.Judge.are_names_apart.Goals as goal

pub loop-number-preserved : goal.loop-number-preserved
loop-number-preserved c = rw add-one (ap₂ (λ a b. a && b) c.loop-number.invariant c.is_apart-are_apart.ensures)
