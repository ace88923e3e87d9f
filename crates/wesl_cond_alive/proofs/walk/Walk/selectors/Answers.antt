use Rattle.std.proofs.Common.{refl}
use Rattle.wesl_tree_syntax.specs.View.{selector_view}
use Rattle.wesl_cond_alive.specs.Views.{spot_view}
use Rattle.wesl_cond_alive.proofs.Nodes.{stepped}
use Rattle.wesl_cond_alive.proofs.Steps.{all_passed, begun, gone_on}
use Rattle.wesl_cond_alive.proofs.walk.Walk.selectors.Goals as goal

pub loop-selector-init : goal.loop-selector-init
loop-selector-init c = begun selector_view (spot_view c.args.here.now)

pub loop-selector-preserved : goal.loop-selector-preserved
loop-selector-preserved c = gone_on selector_view (spot_view c.args.here.now) c.selector-item.result c.loop-selector-test.true c.selector-item.is c.loop-selector.invariant refl (stepped c.selector.ensures refl)

pub returns : goal.returns
returns c = all_passed selector_view (spot_view c.args.here.now) c.loop-selector-test.false c.deref-selector-items.ensures.value refl c.loop-selector.invariant
