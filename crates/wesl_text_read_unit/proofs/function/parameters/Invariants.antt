use Rattle.wesl_tree_syntax.specs.View.{parameter_view}
use Rattle.wesl_text_tokens.specs.declared.symbol.Symbol.TheVariants as is
use Rattle.wesl_text_form.specs.Productions.{a_parameter}
use Rattle.wesl_text_read_imports.proofs.Closed.{Items}
use Rattle.wesl_text_read_unit.proofs.function.parameters.Given as goal

abbrev pub invariant-parameters : goal.invariant-parameters
invariant-parameters l = Items parameter_view a_parameter is.ParenRight l.goes_on l.room l.parameters.items l.fn.reader l.reader

abbrev pub decreases-parameters : goal.decreases-parameters
decreases-parameters l = l.room
