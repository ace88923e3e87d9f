-- Each pattern is tried at its 64 bits.
use Rattle.std.proofs.Common.{arith, ◌≡◌}
use Rattle.wesl_cond_choices.proofs.Bits.{pattern_0, pattern_1, pattern_2, pattern_3, pattern_4, pattern_5}
use Rattle.wesl_cond_choices.proofs.choices.low_pattern.Goals as goal

pub returns-in-0 : goal.returns-in-0
returns-in-0 c b within = rw c.in-0.is (pattern_0 b within)

pub returns-in-1 : goal.returns-in-1
returns-in-1 c b within = rw c.in-1.is (pattern_1 b within)

pub returns-in-2 : goal.returns-in-2
returns-in-2 c b within = rw c.in-2.is (pattern_2 b within)

pub returns-in-3 : goal.returns-in-3
returns-in-3 c b within = rw c.in-3.is (pattern_3 b within)

pub returns-in-4 : goal.returns-in-4
returns-in-4 c b within = rw c.in-4.is (pattern_4 b within)

pub returns-in_default : goal.returns-in_default
returns-in_default c b within = let last : c.args.flag ≡ 5 = omega arith in rw last (pattern_5 b within)
