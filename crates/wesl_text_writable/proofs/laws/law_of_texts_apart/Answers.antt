use Rattle.wesl_text_writable.proofs.Apart as apart
use Rattle.wesl_text_writable.proofs.laws.law_of_texts_apart.Goals as goal

pub returns : goal.returns
returns c = record { trees_stand_apart = apart.trees_stand_apart; units_stand_apart = apart.units_stand_apart }
