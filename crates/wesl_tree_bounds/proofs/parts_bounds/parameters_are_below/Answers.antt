use Rattle.std.proofs.Common.{refl, sym, ◌∙◌}
use Rattle.wesl_tree_syntax.specs.View.{parameter_view}
use Rattle.wesl_tree_bounds.proofs.Below.{end_below, next_below, not_below}
use Rattle.wesl_tree_bounds.proofs.parts_bounds.parameters_are_below.Goals as goal

pub loop-parameter-init : goal.loop-parameter-init
loop-parameter-init c = refl

pub loop-parameter-preserved : goal.loop-parameter-preserved
loop-parameter-preserved c =
    next_below parameter_view c.args.bound c.deref-parameter-items.result.now c.loop-parameter.parameter-index c.parameter-item.result c.loop-parameter-test.true c.parameter-item.is (sym c.parameter_is_below.ensures ∙ c.if-not-parameter_is_below.false) c.loop-parameter.invariant

pub returns-then-not-parameter_is_below : goal.returns-then-not-parameter_is_below
returns-then-not-parameter_is_below c =
    not_below parameter_view c.args.bound c.deref-parameter-items.result.now c.args.all.now.items c.loop-parameter.parameter-index c.parameter-item.result c.loop-parameter-test.true c.parameter-item.is c.deref-parameter-items.ensures.value (sym c.parameter_is_below.ensures ∙ c.if-not-parameter_is_below.true) c.loop-parameter.invariant

pub returns : goal.returns
returns c =
    end_below parameter_view c.args.bound c.deref-parameter-items.result.now c.args.all.now.items c.loop-parameter.parameter-index c.loop-parameter-test.false c.deref-parameter-items.ensures.value c.loop-parameter.invariant
