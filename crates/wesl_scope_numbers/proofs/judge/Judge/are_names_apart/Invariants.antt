use Rattle.std.proofs.Common.{◌≡◌}
use Rattle.wesl_scope_numbers.specs.Judging.{apart_at, all_below}
use Rattle.wesl_scope_numbers.specs.Judges.{known}
use Rattle.wesl_scope_numbers.proofs.judge.Judge.are_names_apart.Given as goal

abbrev pub invariant-loop-number : goal.invariant-loop-number
invariant-loop-number l = l.are_apart ≡ all_below l.number (apart_at l.self.alike.items (known l.self))
