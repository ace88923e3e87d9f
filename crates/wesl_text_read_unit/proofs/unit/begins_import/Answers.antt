use Rattle.wesl_text_form.specs.Productions.{an_import}
use Rattle.wesl_text_reading.specs.FirstTokens.{begins_sort}
use Rattle.wesl_text_read_unit.proofs.Wholes.{tells}
use Rattle.wesl_text_read_unit.proofs.unit.begins_import.Goals as goal

pub returns : goal.returns
returns c = tells (begins_sort an_import) _ c.word_begins.result c.behind_attributes.ensures c.word_begins.ensures
