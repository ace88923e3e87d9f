use Rattle.wesl_cond_chains.proofs.StagesClear.{later_faultless}
use Rattle.wesl_cond_chains.proofs.laws.law_of_later_stages.Goals as goal

pub returns : goal.returns
returns c = λ first second u h. later_faultless first second h u
