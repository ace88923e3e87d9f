use Rattle.wesl_link_symbols.proofs.Once.{once}
use Rattle.wesl_link_symbols.proofs.laws.law_of_answers.Goals as goal

pub returns : goal.returns
returns g c = once
