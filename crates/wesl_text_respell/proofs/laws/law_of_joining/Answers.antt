use Rattle.wesl_text_respell.proofs.Units as units
use Rattle.wesl_text_respell.proofs.laws.law_of_joining.Goals as goal

pub returns : goal.returns
returns c = record { units_of_parts = units.units_of_parts; joined_units = units.joined_units }
