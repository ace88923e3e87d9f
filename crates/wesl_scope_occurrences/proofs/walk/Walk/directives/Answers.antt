use Rattle.std.proofs.Common.{refl}
use Rattle.wesl_tree_syntax.specs.Tree.{directive_node}
use Rattle.wesl_tree_syntax.specs.View.{directive_view, placed}
use Rattle.wesl_scope_occurrences.specs.Views.{here_view}
use Rattle.wesl_scope_occurrences.proofs.Steps.{all_passed, begun, gone_on, lawful, inside}
use Rattle.wesl_scope_occurrences.proofs.walk.Walk.directives.Goals as goal

pub loop-directive-init : goal.loop-directive-init
loop-directive-init g c =
    let l = lawful g.met.H.Handler.none g.met.H.Handler.more in
    begun l (placed directive_view directive_node) (here_view c.args.here.now)

pub loop-directive-preserved : goal.loop-directive-preserved
loop-directive-preserved g c =
    let l = lawful g.met.H.Handler.none g.met.H.Handler.more in
    gone_on l (placed directive_view directive_node) (here_view c.args.here.now) c.directive-item.result c.loop-directive-test.true c.directive-item.is c.loop-directive.invariant (inside (here_view c.args.here.now) c.directive.ensures refl refl)

pub returns : goal.returns
returns g c = all_passed (placed directive_view directive_node) (here_view c.args.here.now) c.loop-directive-test.false c.deref-directive-items.ensures.value refl c.loop-directive.invariant
