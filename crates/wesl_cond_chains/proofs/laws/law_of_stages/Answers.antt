use Rattle.wesl_cond_chains.proofs.TreeStages.{residual_unit_in_stages}
use Rattle.wesl_cond_chains.proofs.laws.law_of_stages.Goals as goal

pub returns : goal.returns
returns c = residual_unit_in_stages
