use Rattle.std.proofs.Common.{◌*◌, ◌+◌, nat_eq, ◌&&◌}
use Rattle.std.specs.Int.{bit_at}
use Rattle.wesl_cond_choices.proofs.Words.{IsDone}
use Rattle.wesl_cond_choices.proofs.choices.keep_flag.Given as goal

abbrev pub invariant-loop-i : goal.invariant-loop-i
invariant-loop-i l = IsDone (λ x y. x && y) (λ j b. nat_eq (bit_at (j * 64 + b) l.flag) 1) l.fn.words l.words l.i
