use Rattle.wesl_cond_faults.proofs.Standing.{lists_all}
use Rattle.wesl_cond_faults.proofs.laws.law_of_all.Goals as goal

pub returns : goal.returns
returns c = lists_all
