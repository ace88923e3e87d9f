use Rattle.wesl_tree_syntax.specs.Tree.{import_node, imports}
use Rattle.wesl_tree_syntax.specs.View.{import_view, placed}
use Rattle.wesl_tree_copies.proofs.Listed.{all_copied, none_yet, one_more}
use Rattle.wesl_tree_copies.proofs.copying.Copying.imports.Goals as goal

pub loop-import-init : goal.loop-import-init
loop-import-init c = none_yet (placed import_view import_node) (placed import_view import_node) _ _ _ _ c.list-copies.ensures.empty c.list-copies.ensures.noted

pub loop-import-preserved : goal.loop-import-preserved
loop-import-preserved c =
    one_more (placed import_view import_node) (placed import_view import_node) c.loop-import-test.true c.import-item.is c.loop-import.invariant c.import_node-copy.ensures c.push.ensures.noted c.push.ensures.pushed

pub returns : goal.returns
returns c = all_copied (placed import_view import_node) (placed import_view import_node) imports c.args.imports.now c.loop-import.copies c.loop-import.invariant c.deref-import-items.ensures.value c.loop-import-test.false
