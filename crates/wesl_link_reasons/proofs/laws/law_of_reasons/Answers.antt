use Rattle.wesl_link_reasons.proofs.Holding.{have_reasons}
use Rattle.wesl_link_reasons.proofs.laws.law_of_reasons.Goals as goal

pub returns : goal.returns
returns g c = have_reasons
