use Rattle.wesl_cond.proofs.Spelled.{left_spelled}
use Rattle.wesl_cond.proofs.laws.law_of_spelling.Goals as goal

pub returns : goal.returns
returns c = left_spelled
