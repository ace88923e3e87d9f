use Rattle.wesl_tree_syntax.specs.Tree.{directive_node, directive_list}
use Rattle.wesl_tree_syntax.specs.View.{directive_view, placed}
use Rattle.wesl_text_form.specs.Productions.{a_directive}
use Rattle.wesl_text_reading.specs.Reading.{begins_child}
use Rattle.wesl_text_read.specs.Levels.{inner}
use Rattle.wesl_text_read_unit.specs.Wholes.{declarations_row}
use Rattle.wesl_text_read_unit.proofs.Wholes.{Parts}
use Rattle.wesl_text_read_unit.proofs.unit.directives.Given as goal

abbrev pub invariant-directives : goal.invariant-directives
invariant-directives l = Parts (placed directive_view directive_node) directive_list a_directive declarations_row (λ n. begins_child (inner n) a_directive) l.goes_on l.room l.directives.items l.fn.reader l.reader

abbrev pub decreases-directives : goal.decreases-directives
decreases-directives l = l.room
