use Rattle.wesl_tree_syntax.specs.View.{import_view, placed}
use Rattle.wesl_tree_syntax.specs.Tree.{import_node}
use Rattle.wesl_visit_rewrite.specs.Replaced.{rule}
use Rattle.wesl_visit_rewrite.proofs.Steps.{FirstWent}
use Rattle.wesl_visit_rewrite.proofs.replace.declaration.in_imports.Given as goal

abbrev pub invariant-loop-i : goal.invariant-loop-i
invariant-loop-i g l = FirstWent (rule g.T.Kind.sought g.R.Rewrite.rewrites l.deep) (placed import_view import_node) l.i l.initial.goes l.initial.imports l.goes l.imports
