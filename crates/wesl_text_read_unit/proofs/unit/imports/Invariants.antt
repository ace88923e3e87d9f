use Rattle.wesl_tree_syntax.specs.Tree.{import_node, imports}
use Rattle.wesl_tree_syntax.specs.View.{import_view, placed}
use Rattle.wesl_text_form.specs.Productions.{an_import}
use Rattle.wesl_text_reading.specs.Reading.{begins_child}
use Rattle.wesl_text_read.specs.Levels.{inner}
use Rattle.wesl_text_read_unit.specs.Wholes.{directives_row}
use Rattle.wesl_text_read_unit.proofs.Wholes.{Parts}
use Rattle.wesl_text_read_unit.proofs.unit.imports.Given as goal

abbrev pub invariant-imports : goal.invariant-imports
invariant-imports l = Parts (placed import_view import_node) imports an_import directives_row (λ n. begins_child (inner n) an_import) l.goes_on l.room l.imports.items l.fn.reader l.reader

abbrev pub decreases-imports : goal.decreases-imports
decreases-imports l = l.room
