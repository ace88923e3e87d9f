use Rattle.wesl_tree_syntax.specs.Tree.{list}
use Rattle.wesl_tree_syntax.specs.View.{selector_view}
use Rattle.wesl_tree_copies.proofs.Listed.{all_copied, none_yet, one_more}
use Rattle.wesl_tree_copies.proofs.copying.Copying.selectors.Goals as goal

pub loop-selector-init : goal.loop-selector-init
loop-selector-init c = none_yet selector_view selector_view _ _ _ _ c.list-copies.ensures.empty c.list-copies.ensures.noted

pub loop-selector-preserved : goal.loop-selector-preserved
loop-selector-preserved c =
    one_more selector_view selector_view c.loop-selector-test.true c.selector-item.is c.loop-selector.invariant c.selector-copy.ensures c.push.ensures.noted c.push.ensures.pushed

pub returns : goal.returns
returns c = all_copied selector_view selector_view list c.args.selectors.now c.loop-selector.copies c.loop-selector.invariant c.deref-selector-items.ensures.value c.loop-selector-test.false
