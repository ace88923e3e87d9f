use Rattle.wesl_link_reach.proofs.Walks.{leads_to_one}
use Rattle.wesl_link_reach.proofs.laws.law_of_look_ups.Goals as goal

pub returns : goal.returns
returns g c = leads_to_one
