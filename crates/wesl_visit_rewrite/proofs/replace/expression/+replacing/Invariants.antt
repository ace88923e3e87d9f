use Rattle.std.proofs.Common.{◌≡◌, ℕ, ◌≤◌, length, get_or}
use Rattle.wesl_tree_syntax.specs.View.{argument_view, expression_tree}
use Rattle.wesl_tree_syntax.specs.declared.expression.Expression.{Expression}
use Rattle.wesl_tree_syntax.specs.declared.span.Spanned.{Spanned}
use Rattle.wesl_visit_rewrite.specs.Replaced.{rule}
use Rattle.wesl_visit_rewrite.proofs.Steps.{FirstWent}
use Rattle.wesl_visit_rewrite.proofs.replace.expression.+replacing.Given as goal

-- what is done so far; and those after it stand as they did
abbrev pub invariant-at_expressions-loop-i : goal.invariant-at_expressions-loop-i
invariant-at_expressions-loop-i g l =
    (FirstWent (rule g.T.Kind.sought g.R.Rewrite.rewrites l.deep) expression_tree l.i l.initial.goes l.initial.nodes l.goes l.nodes)
    × ((length l.nodes ≡ length l.initial.nodes) × ((k : ℕ) (d : Spanned Expression) → l.i ≤ k → get_or l.nodes k d ≡ get_or l.initial.nodes k d))

abbrev pub invariant-in_arguments-loop-i : goal.invariant-in_arguments-loop-i
invariant-in_arguments-loop-i g l = (FirstWent (rule g.T.Kind.sought g.R.Rewrite.rewrites l.deep) argument_view l.i l.initial.goes l.initial.arguments l.goes l.arguments) × goal.unvisited-in_arguments-loop-i g l
