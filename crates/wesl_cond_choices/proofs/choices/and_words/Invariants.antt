use Rattle.std.proofs.Common.{◌&&◌}
use Rattle.wesl_cond_choices.proofs.Words.{bit, IsDone}
use Rattle.wesl_cond_choices.proofs.choices.and_words.Given as goal

abbrev pub invariant-loop-i : goal.invariant-loop-i
invariant-loop-i l = IsDone (λ x y. x && y) (bit l.others) l.fn.words l.words l.i
