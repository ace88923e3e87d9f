use Rattle.std.proofs.Common.{◌≡◌}
use Rattle.wesl_scope_numbers.specs.Judging.{outside_at, all_below}
use Rattle.wesl_scope_numbers.specs.Judges.{known}
use Rattle.wesl_scope_numbers.proofs.judge.Judge.are_outside_right.Given as goal

abbrev pub invariant-loop-number : goal.invariant-loop-number
invariant-loop-number l = l.are_right ≡ all_below l.number (outside_at l.self.alike.items (known l.self))
