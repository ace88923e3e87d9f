use Rattle.wesl_validate_faults.proofs.Inside.{misfitting_stand_there}
use Rattle.wesl_validate_faults.proofs.Misplaced.{misfitting_are_findings, misfitting_are_one_list}
use Rattle.wesl_validate_faults.proofs.laws.law_of_misfit_calls.Goals as goal

pub returns-clause-findings : goal.returns-clause-findings
returns-clause-findings c = misfitting_are_findings

pub returns-clause-one : goal.returns-clause-one
returns-clause-one c = misfitting_are_one_list

pub returns-clause-there : goal.returns-clause-there
returns-clause-there c = misfitting_stand_there
