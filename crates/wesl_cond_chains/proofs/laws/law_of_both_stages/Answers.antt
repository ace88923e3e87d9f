use Rattle.wesl_cond_chains.proofs.StagesClear.{both_faultless}
use Rattle.wesl_cond_chains.proofs.laws.law_of_both_stages.Goals as goal

pub returns : goal.returns
returns c = λ first second u e h. both_faultless first second e h u
