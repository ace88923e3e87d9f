use Rattle.wesl_cond_faults.proofs.Alike.{tells_what_refuses}
use Rattle.wesl_cond_faults.proofs.laws.law_of_refusals.Goals as goal

pub returns : goal.returns
returns c = tells_what_refuses
