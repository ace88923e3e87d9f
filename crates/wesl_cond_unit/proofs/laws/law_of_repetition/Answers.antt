use Rattle.wesl_cond_unit.proofs.LeftClear.{left_faultless}
use Rattle.wesl_cond_unit.proofs.laws.law_of_repetition.Goals as goal

pub returns : goal.returns
returns c = left_faultless
