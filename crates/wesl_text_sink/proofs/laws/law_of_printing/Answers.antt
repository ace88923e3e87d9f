use Rattle.wesl_text_sink.proofs.UnitPrinted.{units_are_printed}
use Rattle.wesl_text_sink.proofs.laws.law_of_printing.Goals as goal

pub returns : goal.returns
returns c = units_are_printed
