use Rattle.std.proofs.Common.{refl}
use Rattle.wesl_tree_syntax.specs.Tree.{attribute_node}
use Rattle.wesl_tree_syntax.specs.View.{attribute_view, placed}
use Rattle.wesl_cond_alive.specs.Views.{here_view, spot_view, state_of}
use Rattle.wesl_cond_alive.proofs.Nodes.{attribute_placed, next_attribute, stepped}
use Rattle.wesl_cond_alive.proofs.Steps.{all_passed, begun, gone_on}
use Rattle.wesl_cond_alive.proofs.walk.Walk.attributes.Goals as goal

pub loop-attribute-init : goal.loop-attribute-init
loop-attribute-init c = begun (placed attribute_view attribute_node) (here_view c.args.here.now)

pub loop-attribute-preserved : goal.loop-attribute-preserved
loop-attribute-preserved c =
    let x = c.attribute-item.result in
    let b = c.args.here.now.is_bare in
    gone_on (placed attribute_view attribute_node) (here_view c.args.here.now) x c.loop-attribute-test.true c.attribute-item.is c.loop-attribute.invariant (next_attribute b _)
    (stepped c.attribute.ensures (attribute_placed (spot_view c.args.here.now) (spot_view c.at_attribute-place.result) b _ (state_of c.loop-attribute.self) x.span.start x.span.end (attribute_view x.node) refl c.at_attribute-place.ensures))

pub returns : goal.returns
returns c = all_passed (placed attribute_view attribute_node) (here_view c.args.here.now) c.loop-attribute-test.false c.deref-attribute-items.ensures.value refl c.loop-attribute.invariant
