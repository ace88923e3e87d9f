use Rattle.wesl_tree_syntax.specs.Tree.{import_node}
use Rattle.wesl_tree_syntax.specs.View.{import_view, placed}
use Rattle.wesl_json_form.specs.Schema.{an_import}
use Rattle.wesl_json_print_nodes.proofs.Lists.{AreNodesBefore}
use Rattle.wesl_json_print.proofs.import.print_each.Given as goal

abbrev pub invariant-loop-import : goal.invariant-loop-import
invariant-loop-import g l = AreNodesBefore l.spans l.names an_import (placed import_view import_node) g.S.Sink.after l.import-items l.initial.out l.out l.import-index
