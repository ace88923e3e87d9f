use Rattle.std.proofs.Common.{refl}
use Rattle.wesl_tree_syntax.specs.View.{parameter_view}
use Rattle.wesl_scope_occurrences.specs.Views.{here_view}
use Rattle.wesl_scope_occurrences.proofs.Steps.{all_passed, begun, gone_on, lawful}
use Rattle.wesl_scope_occurrences.proofs.walk.Walk.parameters.Goals as goal

pub loop-parameter-init : goal.loop-parameter-init
loop-parameter-init g c =
    let l = lawful g.met.H.Handler.none g.met.H.Handler.more in
    begun l parameter_view (here_view c.args.here.now)

pub loop-parameter-preserved : goal.loop-parameter-preserved
loop-parameter-preserved g c =
    let l = lawful g.met.H.Handler.none g.met.H.Handler.more in
    gone_on l parameter_view (here_view c.args.here.now) c.parameter-item.result c.loop-parameter-test.true c.parameter-item.is c.loop-parameter.invariant c.parameter.ensures

pub returns : goal.returns
returns g c = all_passed parameter_view (here_view c.args.here.now) c.loop-parameter-test.false c.deref-parameter-items.ensures.value refl c.loop-parameter.invariant
