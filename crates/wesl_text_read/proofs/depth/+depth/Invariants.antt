use Rattle.std.proofs.Common.{◌≡◌, drop}
use Rattle.wesl_tree_syntax.specs.View.{argument_view, expression_tree}
use Rattle.wesl_text_read.proofs.Deep.{all_within}
use Rattle.wesl_text_read.proofs.depth.+depth.Given as goal

abbrev pub invariant-arguments_are_within-loop-argument : goal.invariant-arguments_are_within-loop-argument
invariant-arguments_are_within-loop-argument l =
    all_within argument_view l.most l.argument-items ≡ all_within argument_view l.most (drop l.argument-index l.argument-items)

abbrev pub invariant-expressions_are_within-loop-expression : goal.invariant-expressions_are_within-loop-expression
invariant-expressions_are_within-loop-expression l =
    all_within expression_tree l.most l.expression-items ≡ all_within expression_tree l.most (drop l.expression-index l.expression-items)
