use Rattle.wesl_tree_syntax.specs.Tree.{declaration_node, declarations}
use Rattle.wesl_tree_syntax.specs.View.{global_view, placed}
use Rattle.wesl_tree_copies.proofs.Listed.{all_copied, none_yet, one_more}
use Rattle.wesl_tree_copies.proofs.copying.Copying.globals.Goals as goal

pub loop-declaration-init : goal.loop-declaration-init
loop-declaration-init c = none_yet (placed global_view declaration_node) (placed global_view declaration_node) _ _ _ _ c.list-copies.ensures.empty c.list-copies.ensures.noted

pub loop-declaration-preserved : goal.loop-declaration-preserved
loop-declaration-preserved c =
    one_more (placed global_view declaration_node) (placed global_view declaration_node) c.loop-declaration-test.true c.declaration-item.is c.loop-declaration.invariant c.global_node-copy.ensures c.push.ensures.noted c.push.ensures.pushed

pub returns : goal.returns
returns c = all_copied (placed global_view declaration_node) (placed global_view declaration_node) declarations c.args.declarations.now c.loop-declaration.copies c.loop-declaration.invariant c.deref-declaration-items.ensures.value c.loop-declaration-test.false
