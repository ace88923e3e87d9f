use Rattle.std.proofs.Common.{refl}
use Rattle.wesl_tree_syntax.specs.View.{selector_view}
use Rattle.wesl_scope_occurrences.specs.Views.{here_view}
use Rattle.wesl_scope_occurrences.proofs.Steps.{all_passed, begun, gone_on, lawful}
use Rattle.wesl_scope_occurrences.proofs.walk.Walk.selectors.Goals as goal

pub loop-selector-init : goal.loop-selector-init
loop-selector-init g c =
    let l = lawful g.met.H.Handler.none g.met.H.Handler.more in
    begun l selector_view (here_view c.args.here.now)

pub loop-selector-preserved : goal.loop-selector-preserved
loop-selector-preserved g c =
    let l = lawful g.met.H.Handler.none g.met.H.Handler.more in
    gone_on l selector_view (here_view c.args.here.now) c.selector-item.result c.loop-selector-test.true c.selector-item.is c.loop-selector.invariant c.selector.ensures

pub returns : goal.returns
returns g c = all_passed selector_view (here_view c.args.here.now) c.loop-selector-test.false c.deref-selector-items.ensures.value refl c.loop-selector.invariant
