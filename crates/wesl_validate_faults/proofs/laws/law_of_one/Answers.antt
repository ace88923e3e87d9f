use Rattle.wesl_validate_faults.proofs.Standing.{lists_each_cause}
use Rattle.wesl_validate_faults.proofs.laws.law_of_one.Goals as goal

pub returns : goal.returns
returns c = lists_each_cause
