use Rattle.wesl_cond_chains.proofs.Then.{then_is_in_stages}
use Rattle.wesl_cond_chains.proofs.laws.law_of_then.Goals as goal

pub returns : goal.returns
returns c = then_is_in_stages
