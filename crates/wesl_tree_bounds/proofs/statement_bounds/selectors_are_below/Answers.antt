use Rattle.std.proofs.Common.{refl, sym, ◌∙◌}
use Rattle.wesl_tree_syntax.specs.View.{selector_view}
use Rattle.wesl_tree_bounds.proofs.Below.{end_below, next_below, not_below}
use Rattle.wesl_tree_bounds.proofs.statement_bounds.selectors_are_below.Goals as goal

pub loop-selector-init : goal.loop-selector-init
loop-selector-init c = refl

pub loop-selector-preserved : goal.loop-selector-preserved
loop-selector-preserved c =
    next_below selector_view c.args.bound c.deref-selector-items.result.now c.loop-selector.selector-index c.selector-item.result c.loop-selector-test.true c.selector-item.is (sym c.selector_is_below.ensures ∙ c.if-not-selector_is_below.false) c.loop-selector.invariant

pub returns-then-not-selector_is_below : goal.returns-then-not-selector_is_below
returns-then-not-selector_is_below c =
    not_below selector_view c.args.bound c.deref-selector-items.result.now c.args.selectors.now.items c.loop-selector.selector-index c.selector-item.result c.loop-selector-test.true c.selector-item.is c.deref-selector-items.ensures.value (sym c.selector_is_below.ensures ∙ c.if-not-selector_is_below.true) c.loop-selector.invariant

pub returns : goal.returns
returns c =
    end_below selector_view c.args.bound c.deref-selector-items.result.now c.args.selectors.now.items c.loop-selector.selector-index c.loop-selector-test.false c.deref-selector-items.ensures.value c.loop-selector.invariant
