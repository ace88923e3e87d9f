use Rattle.std.proofs.Common.{sym}
use Rattle.wesl_tree_syntax.specs.Tree.{import_node}
use Rattle.wesl_tree_syntax.specs.View.{import_view, placed}
use Rattle.wesl_json_form.specs.Schema.{an_import}
use Rattle.wesl_json_words.proofs.Lists.{placed-value}
use Rattle.wesl_json_print_nodes.proofs.Adding.{lawful}
use Rattle.wesl_json_print_nodes.proofs.Lists.{all_nodes_before, no_nodes_before, one_node_more}
use Rattle.wesl_json_print.proofs.import.print_each.Goals as goal

pub loop-import-init : goal.loop-import-init
loop-import-init g c =
    let l = lawful g.met.S.Sink.none g.met.S.Sink.more in
    no_nodes_before c.args.spans c.args.names.now an_import (placed import_view import_node) l c.deref-import-items.result.now c.begin_list.new.self

pub loop-import-preserved : goal.loop-import-preserved
loop-import-preserved g c =
    let l = lawful g.met.S.Sink.none g.met.S.Sink.more in
    one_node_more c.args.spans c.args.names.now an_import (placed import_view import_node) l c.deref-import-items.result.now c.loop-import.import-index c.import-item.result _ c.loop-import-test.true c.import-item.is (sym (placed-value c.args.spans c.args.names.now an_import import_view import_node c.import-item.result)) c.loop-import.invariant c.print_import.ensures

pub returns : goal.returns
returns g c =
    let l = lawful g.met.S.Sink.none g.met.S.Sink.more in
    all_nodes_before c.args.spans c.args.names.now an_import (placed import_view import_node) l c.deref-import-items.result.now c.args.imports.now.items c.loop-import.import-index c.deref-import-items.ensures.value c.loop-import-test.false c.begin_list.ensures c.loop-import.invariant c.close_list.ensures
