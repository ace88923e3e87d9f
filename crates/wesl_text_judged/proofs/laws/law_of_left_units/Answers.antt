use Rattle.wesl_text_judged.proofs.Units as units
use Rattle.wesl_text_judged.proofs.laws.law_of_left_units.Goals as goal

pub returns : goal.returns
returns c = record { left_units = units.left_units; bare_units = units.bare_units; left_views = units.left_views }
