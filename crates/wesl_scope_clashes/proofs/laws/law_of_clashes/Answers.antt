use Rattle.wesl_scope_clashes.proofs.Faith.{none_is_faithful}
use Rattle.wesl_scope_clashes.proofs.laws.law_of_clashes.Goals as goal

pub returns : goal.returns
returns c = none_is_faithful
