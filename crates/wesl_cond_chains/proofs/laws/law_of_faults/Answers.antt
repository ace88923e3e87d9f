use Rattle.wesl_cond_chains.proofs.NaturalFaults.{spelling_tells_faults}
use Rattle.wesl_cond_chains.proofs.laws.law_of_faults.Goals as goal

pub returns : goal.returns
returns c = spelling_tells_faults
