use Rattle.wesl_link_split.proofs.Asked.{asks_as_itself}
use Rattle.wesl_link_split.proofs.laws.law_of_askers.Goals as goal

pub returns : goal.returns
returns c = asks_as_itself
