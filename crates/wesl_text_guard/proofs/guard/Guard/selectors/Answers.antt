use Rattle.wesl_text_guard.specs.Guards.{as_item}
use Rattle.std.proofs.Common.{arith}
use Rattle.wesl_tree_syntax.specs.Tree.{list}
use Rattle.wesl_tree_syntax.specs.View.{selector_view}
use Rattle.wesl_text_guard.proofs.Listed.{all_guarded, list_asks, none_yet, one_more}
use Rattle.wesl_text_guard.proofs.Parts.{selector_listed}
use Rattle.wesl_text_guard.proofs.guard.Guard.selectors.Goals as goal

pub loop-selector-init : goal.loop-selector-init
loop-selector-init c = none_yet as_item selector_view _ _

pub loop-selector-preserved : goal.loop-selector-preserved
loop-selector-preserved c =
    let l = c.loop-selector in
    one_more as_item selector_view c.selector-item.result c.selector.new.selector (omega arith) l.invariant (selector_listed _ _ c.selector.ensures)

pub returns : goal.returns
returns c =
    let l = c.loop-selector in
    let lent = c.deref_mut-selector-items in
    all_guarded as_item selector_view list (list_asks selector_view) c.args.selectors.now l.invariant lent.ensures.value (omega (arith, l.auto.selector-items, lent.ensures.len)) (omega arith)
