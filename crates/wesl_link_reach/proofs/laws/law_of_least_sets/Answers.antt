use Rattle.wesl_link_reach.proofs.Least.{least}
use Rattle.wesl_link_reach.proofs.laws.law_of_least_sets.Goals as goal

pub returns : goal.returns
returns g c = least
