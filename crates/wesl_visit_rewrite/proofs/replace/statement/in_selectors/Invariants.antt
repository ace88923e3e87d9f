use Rattle.wesl_tree_syntax.specs.View.{selector_view}
use Rattle.wesl_visit_rewrite.specs.Replaced.{rule}
use Rattle.wesl_visit_rewrite.proofs.Steps.{FirstWent}
use Rattle.wesl_visit_rewrite.proofs.replace.statement.in_selectors.Given as goal

abbrev pub invariant-loop-i : goal.invariant-loop-i
invariant-loop-i g l = FirstWent (rule g.T.Kind.sought g.R.Rewrite.rewrites l.deep) selector_view l.i l.initial.goes l.initial.selectors l.goes l.selectors
