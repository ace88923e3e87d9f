use Rattle.std.proofs.Common.{refl}
use Rattle.wesl_tree_syntax.specs.Tree.{attribute_node}
use Rattle.wesl_tree_syntax.specs.View.{attribute_view, placed}
use Rattle.wesl_scope_occurrences.specs.Views.{here_view}
use Rattle.wesl_scope_occurrences.proofs.Steps.{all_passed, begun, gone_on, lawful, inside}
use Rattle.wesl_scope_occurrences.proofs.walk.Walk.attributes.Goals as goal

pub loop-attribute-init : goal.loop-attribute-init
loop-attribute-init g c =
    let l = lawful g.met.H.Handler.none g.met.H.Handler.more in
    begun l (placed attribute_view attribute_node) (here_view c.args.here.now)

pub loop-attribute-preserved : goal.loop-attribute-preserved
loop-attribute-preserved g c =
    let l = lawful g.met.H.Handler.none g.met.H.Handler.more in
    gone_on l (placed attribute_view attribute_node) (here_view c.args.here.now) c.attribute-item.result c.loop-attribute-test.true c.attribute-item.is c.loop-attribute.invariant (inside (here_view c.args.here.now) c.attribute.ensures refl refl)

pub returns : goal.returns
returns g c = all_passed (placed attribute_view attribute_node) (here_view c.args.here.now) c.loop-attribute-test.false c.deref-attribute-items.ensures.value refl c.loop-attribute.invariant
