use Rattle.wesl_validate_faults.proofs.Standing.{is_one_list, lists_each_once}
use Rattle.wesl_validate_faults.proofs.laws.law_of_lists.Goals as goal

pub returns-clause-one : goal.returns-clause-one
returns-clause-one c = is_one_list

pub returns-clause-once : goal.returns-clause-once
returns-clause-once c = lists_each_once
