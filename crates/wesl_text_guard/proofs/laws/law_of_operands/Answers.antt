use Rattle.wesl_text_guard.proofs.Texts.{operations_have_texts, parts_have_texts}
use Rattle.wesl_text_guard.proofs.laws.law_of_operands.Goals as goal

pub returns : goal.returns
returns c = record { operations = operations_have_texts; parts = parts_have_texts }
