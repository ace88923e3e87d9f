use Rattle.wesl_validate_faults.proofs.Ringed.{members_are_findings, members_are_one_list, members_stand_there}
use Rattle.wesl_validate_faults.proofs.laws.law_of_ring_members.Goals as goal

pub returns-clause-findings : goal.returns-clause-findings
returns-clause-findings c = members_are_findings

pub returns-clause-one : goal.returns-clause-one
returns-clause-one c = members_are_one_list

pub returns-clause-there : goal.returns-clause-there
returns-clause-there c = members_stand_there
