use Rattle.wesl_link_symbols.proofs.Whole.{has_answers}
use Rattle.wesl_link_symbols.proofs.laws.law_of_all.Goals as goal

pub returns : goal.returns
returns g c = has_answers
