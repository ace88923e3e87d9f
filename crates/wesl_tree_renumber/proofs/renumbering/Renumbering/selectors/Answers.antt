use Rattle.std.proofs.Common.{arith}
use Rattle.wesl_tree_syntax.specs.Tree.{list}
use Rattle.wesl_tree_syntax.specs.View.{selector_view}
use Rattle.wesl_tree_renumber.proofs.Listed.{all_numbered, none_yet, one_more}
use Rattle.wesl_tree_renumber.proofs.renumbering.Renumbering.selectors.Goals as goal

pub loop-selector-init : goal.loop-selector-init
loop-selector-init c = none_yet selector_view _ _

pub loop-selector-preserved : goal.loop-selector-preserved
loop-selector-preserved c =
    let l = c.loop-selector in
    one_more selector_view c.selector-item.result c.selector.new.selector (omega arith) l.invariant c.selector.ensures

pub returns : goal.returns
returns c =
    let l = c.loop-selector in
    let lent = c.deref_mut-selector-items in
    all_numbered selector_view list c.args.selectors.now l.invariant lent.ensures.value (omega (arith, l.auto.selector-items, lent.ensures.len)) (omega arith)
