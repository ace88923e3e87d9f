use Rattle.wesl_link_symbols.proofs.Once.{answered_plainly}
use Rattle.wesl_link_symbols.proofs.laws.law_of_one_target.Goals as goal

pub returns : goal.returns
returns g c = answered_plainly
