use Rattle.wesl_validate_rules.proofs.Faults.{wesl_refutes, wgsl_refutes, faultless, faultless_fits}
use Rattle.wesl_validate_rules.proofs.laws.law_of_faults.Goals as goal

pub returns-clause-wesl : goal.returns-clause-wesl
returns-clause-wesl c = wesl_refutes

pub returns-clause-wgsl : goal.returns-clause-wgsl
returns-clause-wgsl c = wgsl_refutes

pub returns-clause-faultless : goal.returns-clause-faultless
returns-clause-faultless c = faultless

pub returns-clause-fits : goal.returns-clause-fits
returns-clause-fits c = faultless_fits
