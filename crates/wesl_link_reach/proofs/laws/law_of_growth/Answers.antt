use Rattle.wesl_link_reach.proofs.Least.{grows}
use Rattle.wesl_link_reach.proofs.laws.law_of_growth.Goals as goal

pub returns : goal.returns
returns g c = grows
