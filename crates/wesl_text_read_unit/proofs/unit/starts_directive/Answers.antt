use Rattle.wesl_text_form.specs.Productions.{a_directive}
use Rattle.wesl_text_reading.specs.FirstTokens.{begins_sort}
use Rattle.wesl_text_read_unit.proofs.Wholes.{tells}
use Rattle.wesl_text_read_unit.proofs.unit.starts_directive.Goals as goal

pub returns : goal.returns
returns c = tells (begins_sort a_directive) _ c.begins_directive.result c.behind_attributes.ensures c.begins_directive.ensures
