use Rattle.wesl_text_print.proofs.Lists.{AreBefore, node_slots}
use Rattle.wesl_text_form.specs.Productions.{an_import}
use Rattle.wesl_tree_syntax.specs.Tree.{import_node}
use Rattle.wesl_tree_syntax.specs.View.{import_view, placed}
use Rattle.wesl_text_print_unit.proofs.unit.print_imports.Given as goal

abbrev pub invariant-loop-import : goal.invariant-loop-import
invariant-loop-import g l = AreBefore (node_slots l.names an_import (placed import_view import_node)) g.S.TokenSink.after l.import-items l.initial.out l.out l.import-index
