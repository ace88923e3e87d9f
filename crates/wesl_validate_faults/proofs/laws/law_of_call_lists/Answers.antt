use Rattle.wesl_validate_faults.proofs.Fitting.{is_one_list_wgsl, lists_each_once_wgsl}
use Rattle.wesl_validate_faults.proofs.laws.law_of_call_lists.Goals as goal

pub returns-clause-one : goal.returns-clause-one
returns-clause-one c = is_one_list_wgsl

pub returns-clause-once : goal.returns-clause-once
returns-clause-once c = lists_each_once_wgsl
