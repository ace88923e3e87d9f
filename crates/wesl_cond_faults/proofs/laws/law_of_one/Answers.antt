use Rattle.wesl_cond_faults.proofs.Standing.{is_one_list}
use Rattle.wesl_cond_faults.proofs.laws.law_of_one.Goals as goal

pub returns : goal.returns
returns c = is_one_list
