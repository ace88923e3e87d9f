use Rattle.wesl_validate_faults.proofs.Used.{are_findings, are_free}
use Rattle.wesl_validate_faults.proofs.laws.law_of_undefined_uses.Goals as goal

pub returns-clause-findings : goal.returns-clause-findings
returns-clause-findings c = are_findings

pub returns-clause-free : goal.returns-clause-free
returns-clause-free c = are_free
