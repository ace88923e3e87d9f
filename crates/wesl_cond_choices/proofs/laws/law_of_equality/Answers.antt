use Rattle.wesl_cond_choices.proofs.Equality.{equality_holds}
use Rattle.wesl_cond_choices.proofs.laws.law_of_equality.Goals as goal

pub returns : goal.returns
returns c = equality_holds
