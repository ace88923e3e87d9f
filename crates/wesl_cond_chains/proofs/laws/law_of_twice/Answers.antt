use Rattle.wesl_cond_chains.proofs.TreeStages.{residual_unit_twice}
use Rattle.wesl_cond_chains.proofs.laws.law_of_twice.Goals as goal

pub returns : goal.returns
returns c = residual_unit_twice
