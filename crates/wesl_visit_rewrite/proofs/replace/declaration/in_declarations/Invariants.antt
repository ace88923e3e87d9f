use Rattle.wesl_tree_syntax.specs.View.{global_view, placed}
use Rattle.wesl_tree_syntax.specs.Tree.{declaration_node}
use Rattle.wesl_visit_rewrite.specs.Replaced.{rule}
use Rattle.wesl_visit_rewrite.proofs.Steps.{FirstWent}
use Rattle.wesl_visit_rewrite.proofs.replace.declaration.in_declarations.Given as goal

abbrev pub invariant-loop-i : goal.invariant-loop-i
invariant-loop-i g l = FirstWent (rule g.T.Kind.sought g.R.Rewrite.rewrites l.deep) (placed global_view declaration_node) l.i l.initial.goes l.initial.declarations l.goes l.declarations
