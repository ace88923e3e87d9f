use Rattle.std.proofs.Common.{nat_le, refl, sym, ap, ◌∙◌}
use Rattle.wesl_tree_syntax.specs.View.{argument_view, expression_tree}
use Rattle.wesl_text_read.proofs.Deep.{alone, argument_levels, end_within, next_within, not_within}
use Rattle.wesl_text_read.proofs.depth.+depth.Goals as goal

pub expressions_are_within-loop-expression-init : goal.expressions_are_within-loop-expression-init
expressions_are_within-loop-expression-init t c = refl

pub expressions_are_within-loop-expression-preserved : goal.expressions_are_within-loop-expression-preserved
expressions_are_within-loop-expression-preserved t c =
    next_within expression_tree c.args.most c.deref-expression-items.result.now c.loop-expression.expression-index c.expression-item.result c.loop-expression-test.true c.expression-item.is
    (ap (λ z. nat_le z c.args.most) (alone _) ∙ sym c.is_within.ensures ∙ c.if-not-is_within.false) c.loop-expression.invariant

pub expressions_are_within-returns-then-not-is_within : goal.expressions_are_within-returns-then-not-is_within
expressions_are_within-returns-then-not-is_within t c =
    not_within expression_tree c.args.most c.deref-expression-items.result.now c.args.expressions.now.items c.loop-expression.expression-index c.expression-item.result c.loop-expression-test.true c.expression-item.is c.deref-expression-items.ensures.value
    (ap (λ z. nat_le z c.args.most) (alone _) ∙ sym c.is_within.ensures ∙ c.if-not-is_within.true) c.loop-expression.invariant

pub expressions_are_within-returns : goal.expressions_are_within-returns
expressions_are_within-returns t c =
    end_within expression_tree c.args.most c.deref-expression-items.result.now c.args.expressions.now.items c.loop-expression.expression-index c.loop-expression-test.false c.deref-expression-items.ensures.value c.loop-expression.invariant

pub arguments_are_within-loop-argument-init : goal.arguments_are_within-loop-argument-init
arguments_are_within-loop-argument-init t c = refl

pub arguments_are_within-loop-argument-preserved : goal.arguments_are_within-loop-argument-preserved
arguments_are_within-loop-argument-preserved t c =
    next_within argument_view c.args.most c.deref-argument-items.result.now c.loop-argument.argument-index c.argument-item.result c.loop-argument-test.true c.argument-item.is
    (ap (λ z. nat_le z c.args.most) (argument_levels c.argument-item.result) ∙ sym c.levels_are_within.ensures ∙ c.if-not-levels_are_within.false) c.loop-argument.invariant

pub arguments_are_within-returns-then-not-levels_are_within : goal.arguments_are_within-returns-then-not-levels_are_within
arguments_are_within-returns-then-not-levels_are_within t c =
    not_within argument_view c.args.most c.deref-argument-items.result.now c.args.arguments.now.items c.loop-argument.argument-index c.argument-item.result c.loop-argument-test.true c.argument-item.is c.deref-argument-items.ensures.value
    (ap (λ z. nat_le z c.args.most) (argument_levels c.argument-item.result) ∙ sym c.levels_are_within.ensures ∙ c.if-not-levels_are_within.true) c.loop-argument.invariant

pub arguments_are_within-returns : goal.arguments_are_within-returns
arguments_are_within-returns t c =
    end_within argument_view c.args.most c.deref-argument-items.result.now c.args.arguments.now.items c.loop-argument.argument-index c.loop-argument-test.false c.deref-argument-items.ensures.value c.loop-argument.invariant
