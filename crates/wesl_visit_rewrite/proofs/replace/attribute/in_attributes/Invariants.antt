use Rattle.wesl_tree_syntax.specs.View.{attribute_view, placed}
use Rattle.wesl_tree_syntax.specs.Tree.{attribute_node}
use Rattle.wesl_visit_rewrite.specs.Replaced.{rule}
use Rattle.wesl_visit_rewrite.proofs.Steps.{FirstWent}
use Rattle.wesl_visit_rewrite.proofs.replace.attribute.in_attributes.Given as goal

abbrev pub invariant-loop-i : goal.invariant-loop-i
invariant-loop-i g l = FirstWent (rule g.T.Kind.sought g.R.Rewrite.rewrites l.deep) (placed attribute_view attribute_node) l.i l.initial.goes l.initial.attributes l.goes l.attributes
