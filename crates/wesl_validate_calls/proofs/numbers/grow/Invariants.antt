use Rattle.std.proofs.Common.{◌≡◌, ◌-◌, ℕ, suc, length}
use Rattle.wesl_scope_strip.specs.Marks.{mark_at}
use Rattle.wesl_validate_calls.proofs.numbers.grow.Given as goal

abbrev pub invariant-loop-marks : goal.invariant-loop-marks
invariant-loop-marks l = (m : ℕ) → mark_at l.marks.items m ≡ mark_at l.initial.marks.items m

abbrev pub decreases-loop-marks : goal.decreases-loop-marks
decreases-loop-marks l = suc l.place - length l.marks.items
