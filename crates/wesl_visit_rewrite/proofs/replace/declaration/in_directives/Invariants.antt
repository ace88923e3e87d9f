use Rattle.wesl_tree_syntax.specs.View.{directive_view, placed}
use Rattle.wesl_tree_syntax.specs.Tree.{directive_node}
use Rattle.wesl_visit_rewrite.specs.Replaced.{rule}
use Rattle.wesl_visit_rewrite.proofs.Steps.{FirstWent}
use Rattle.wesl_visit_rewrite.proofs.replace.declaration.in_directives.Given as goal

abbrev pub invariant-loop-i : goal.invariant-loop-i
invariant-loop-i g l = FirstWent (rule g.T.Kind.sought g.R.Rewrite.rewrites l.deep) (placed directive_view directive_node) l.i l.initial.goes l.initial.directives l.goes l.directives
