use Rattle.std.proofs.Common.{arith, ◌∙◌, sym}
use Rattle.wesl_cond_choices.proofs.Bits.{low_flag, on_flag, off_flag}
use Rattle.wesl_cond_choices.proofs.choices.flag_word.Goals as goal

pub returns-then-flag-lt6 : goal.returns-then-flag-lt6
returns-then-flag-lt6 c b within = c.low_pattern.ensures b within ∙ sym (low_flag c.args.word b c.args.flag (omega arith))

pub returns-then-word-flag-eq1 : goal.returns-then-word-flag-eq1
returns-then-word-flag-eq1 c b within = on_flag c.args.word b c.args.flag within (omega arith) c.if-word-flag-eq1.true

pub returns : goal.returns
returns c b within = off_flag c.args.word b c.args.flag within (omega arith) c.if-word-flag-eq1.false
