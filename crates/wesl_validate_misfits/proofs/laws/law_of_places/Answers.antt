use Rattle.wesl_validate_misfits.proofs.Same.{placed_are_misfits}
use Rattle.wesl_validate_misfits.proofs.laws.law_of_places.Goals as goal

pub returns : goal.returns
returns c = placed_are_misfits
