use Rattle.wesl_text_guard.specs.Guards.{as_it_is}
use Rattle.std.proofs.Common.{arith, get_or}
use Rattle.wesl_tree_syntax.specs.Tree.{import_node, imports}
use Rattle.wesl_tree_syntax.specs.View.{import_view, placed}
use Rattle.wesl_text_guard.proofs.Listed.{all_guarded, none_yet, nothing_asked, one_more}
use Rattle.wesl_text_guard.proofs.Parts.{of_place}
use Rattle.wesl_text_guard.proofs.guard.Guard.imports.Goals as goal

pub loop-import-init : goal.loop-import-init
loop-import-init c = none_yet as_it_is (placed import_view import_node) _ _

pub loop-import-preserved : goal.loop-import-preserved
loop-import-preserved c =
    let l = c.loop-import in
    let x = get_or l.import-items l.import-index c.import-item.result in
    one_more as_it_is (placed import_view import_node) c.import-item.result _ (omega arith) l.invariant (of_place import_view import_node x c.import.new.import c.import.ensures)

pub returns : goal.returns
returns c =
    let l = c.loop-import in
    let lent = c.deref_mut-import-items in
    all_guarded as_it_is (placed import_view import_node) imports (nothing_asked (placed import_view import_node)) c.args.imports.now l.invariant lent.ensures.value (omega (arith, l.auto.import-items, lent.ensures.len)) (omega arith)
