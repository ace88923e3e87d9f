use Rattle.std.proofs.Common.{refl, sym, ◌∙◌}
use Rattle.wesl_tree_syntax.specs.Tree.{directive_node}
use Rattle.wesl_tree_syntax.specs.View.{directive_view, placed}
use Rattle.wesl_tree_bounds.proofs.Below.{end_below, next_below, not_below, placed_below}
use Rattle.wesl_tree_bounds.proofs.parts_bounds.directives_are_below.Goals as goal

pub loop-directive-init : goal.loop-directive-init
loop-directive-init c = refl

pub loop-directive-preserved : goal.loop-directive-preserved
loop-directive-preserved c =
    next_below (placed directive_view directive_node) c.args.bound c.deref-directive-items.result.now c.loop-directive.directive-index c.directive-item.result c.loop-directive-test.true c.directive-item.is (placed_below directive_view directive_node c.args.bound c.directive-item.result ∙ sym c.directive_is_below.ensures ∙ c.if-not-directive_is_below.false) c.loop-directive.invariant

pub returns-then-not-directive_is_below : goal.returns-then-not-directive_is_below
returns-then-not-directive_is_below c =
    not_below (placed directive_view directive_node) c.args.bound c.deref-directive-items.result.now c.args.directives.now.items c.loop-directive.directive-index c.directive-item.result c.loop-directive-test.true c.directive-item.is c.deref-directive-items.ensures.value (placed_below directive_view directive_node c.args.bound c.directive-item.result ∙ sym c.directive_is_below.ensures ∙ c.if-not-directive_is_below.true) c.loop-directive.invariant

pub returns : goal.returns
returns c =
    end_below (placed directive_view directive_node) c.args.bound c.deref-directive-items.result.now c.args.directives.now.items c.loop-directive.directive-index c.loop-directive-test.false c.deref-directive-items.ensures.value c.loop-directive.invariant
