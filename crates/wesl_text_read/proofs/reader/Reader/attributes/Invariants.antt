use Rattle.wesl_tree_syntax.specs.Tree.{attribute_node}
use Rattle.wesl_tree_syntax.specs.View.{attribute_view, placed}
use Rattle.wesl_text_tokens.specs.declared.symbol.Symbol.TheVariants as is
use Rattle.wesl_text_form.specs.Productions.{an_attribute}
use Rattle.wesl_text_reading.specs.FirstTokens.{begins_sign}
use Rattle.wesl_text_read.proofs.Attributes.{Runs}
use Rattle.wesl_text_read.proofs.reader.Reader.attributes.Given as goal

abbrev pub invariant-attributes : goal.invariant-attributes
invariant-attributes l = Runs (placed attribute_view attribute_node) an_attribute (begins_sign is.At) l.room l.attributes.items l.fn.self l.self

abbrev pub decreases-attributes : goal.decreases-attributes
decreases-attributes l = l.room
