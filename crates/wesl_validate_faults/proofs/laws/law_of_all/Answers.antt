use Rattle.wesl_validate_faults.proofs.Standing.{lists_what_stands}
use Rattle.wesl_validate_faults.proofs.Telling.{tells_refusals}
use Rattle.wesl_validate_faults.proofs.laws.law_of_all.Goals as goal

pub returns-clause-stands : goal.returns-clause-stands
returns-clause-stands c = lists_what_stands

pub returns-clause-refuses : goal.returns-clause-refuses
returns-clause-refuses c = tells_refusals
