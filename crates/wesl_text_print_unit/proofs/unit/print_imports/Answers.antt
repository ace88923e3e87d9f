use Rattle.wesl_text_form.specs.Productions.{an_import}
use Rattle.wesl_tree_syntax.specs.Tree.{import_node}
use Rattle.wesl_tree_syntax.specs.View.{import_view, placed}
use Rattle.wesl_text_print.proofs.Adding.{lawful, one, then, told}
use Rattle.wesl_text_print.proofs.Lists.{all_before, node_slots, none_before, one_more}
use Rattle.wesl_text_print_statements.proofs.Rows.{all_is}
use Rattle.wesl_text_print_unit.proofs.unit.print_imports.Goals as goal

pub loop-import-init : goal.loop-import-init
loop-import-init g c =
    let l = lawful g.met.S.TokenSink.none g.met.S.TokenSink.more in
    none_before (node_slots c.args.names.now an_import (placed import_view import_node)) l c.deref-import-items.result.now c.args.out.now

pub loop-import-preserved : goal.loop-import-preserved
loop-import-preserved g c =
    let l = lawful g.met.S.TokenSink.none g.met.S.TokenSink.more in
    one_more (node_slots c.args.names.now an_import (placed import_view import_node)) l c.deref-import-items.result.now c.loop-import.import-index c.import-item.result c.loop-import-test.true c.import-item.is c.loop-import.invariant
    (then l c.print_import.ensures (one l c.line.ensures))

pub returns : goal.returns
returns g c =
    let l = lawful g.met.S.TokenSink.none g.met.S.TokenSink.more in
    told (all_is c.args.names.now (placed import_view import_node) an_import c.args.imports.now.items)
    (all_before (node_slots c.args.names.now an_import (placed import_view import_node)) l c.deref-import-items.result.now c.args.imports.now.items c.loop-import.import-index c.deref-import-items.ensures.value c.loop-import-test.false c.loop-import.invariant)
