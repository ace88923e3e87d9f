use Rattle.wesl_validate_faults.proofs.Fitting.{lists_what_stands_wgsl, lists_each_cause_wgsl}
use Rattle.wesl_validate_faults.proofs.Telling.{tells_refusals_wgsl}
use Rattle.wesl_validate_faults.proofs.laws.law_of_calls.Goals as goal

pub returns-clause-stands : goal.returns-clause-stands
returns-clause-stands c = lists_what_stands_wgsl

pub returns-clause-refuses : goal.returns-clause-refuses
returns-clause-refuses c = tells_refusals_wgsl

pub returns-clause-cause : goal.returns-clause-cause
returns-clause-cause c = lists_each_cause_wgsl
