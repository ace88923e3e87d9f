use Rattle.wesl_text_left.proofs.Formulas as formulas
use Rattle.wesl_text_left.proofs.laws.law_of_left_formulas.Goals as goal

pub returns : goal.returns
returns c = record { left_formulas = formulas.left_formulas }
