-- Of n flags below 6 the lowest 2 ^ n bits are set, and of more all 64.
use Rattle.std.proofs.Common.{arith}
use Rattle.wesl_cond_choices.proofs.Bits.{bit_of_ones, bit_of_full}
use Rattle.wesl_cond_choices.proofs.choices.full_word.Goals as goal

pub returns-in-0 : goal.returns-in-0
returns-in-0 c b within = rw c.in-0.is (bit_of_ones 1 b)

pub returns-in-1 : goal.returns-in-1
returns-in-1 c b within = rw c.in-1.is (bit_of_ones 2 b)

pub returns-in-2 : goal.returns-in-2
returns-in-2 c b within = rw c.in-2.is (bit_of_ones 4 b)

pub returns-in-3 : goal.returns-in-3
returns-in-3 c b within = rw c.in-3.is (bit_of_ones 8 b)

pub returns-in-4 : goal.returns-in-4
returns-in-4 c b within = rw c.in-4.is (bit_of_ones 16 b)

pub returns-in-5 : goal.returns-in-5
returns-in-5 c b within = rw c.in-5.is (bit_of_ones 32 b)

pub returns-in_default : goal.returns-in_default
returns-in_default c b within = bit_of_full c.args.flags b (omega arith) within
