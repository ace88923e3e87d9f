use Rattle.std.proofs.Common.{refl, sym, ◌∙◌}
use Rattle.wesl_tree_syntax.specs.Tree.{attribute_node}
use Rattle.wesl_tree_syntax.specs.View.{attribute_view, placed}
use Rattle.wesl_tree_bounds.proofs.Below.{end_below, next_below, not_below, placed_below}
use Rattle.wesl_tree_bounds.proofs.parts_bounds.attributes_are_below.Goals as goal

pub loop-attribute-init : goal.loop-attribute-init
loop-attribute-init c = refl

pub loop-attribute-preserved : goal.loop-attribute-preserved
loop-attribute-preserved c =
    next_below (placed attribute_view attribute_node) c.args.bound c.deref-attribute-items.result.now c.loop-attribute.attribute-index c.attribute-item.result c.loop-attribute-test.true c.attribute-item.is (placed_below attribute_view attribute_node c.args.bound c.attribute-item.result ∙ sym c.attribute_is_below.ensures ∙ c.if-not-attribute_is_below.false) c.loop-attribute.invariant

pub returns-then-not-attribute_is_below : goal.returns-then-not-attribute_is_below
returns-then-not-attribute_is_below c =
    not_below (placed attribute_view attribute_node) c.args.bound c.deref-attribute-items.result.now c.args.attributes.now.items c.loop-attribute.attribute-index c.attribute-item.result c.loop-attribute-test.true c.attribute-item.is c.deref-attribute-items.ensures.value (placed_below attribute_view attribute_node c.args.bound c.attribute-item.result ∙ sym c.attribute_is_below.ensures ∙ c.if-not-attribute_is_below.true) c.loop-attribute.invariant

pub returns : goal.returns
returns c =
    end_below (placed attribute_view attribute_node) c.args.bound c.deref-attribute-items.result.now c.args.attributes.now.items c.loop-attribute.attribute-index c.loop-attribute-test.false c.deref-attribute-items.ensures.value c.loop-attribute.invariant
