use Rattle.wesl_tree_syntax.specs.Tree.{member_node}
use Rattle.wesl_tree_syntax.specs.View.{member_view, placed}
use Rattle.wesl_visit_collect.proofs.Adds.{Walked}
use Rattle.wesl_visit_collect.proofs.collect.declaration.in_struct.Given as goal

abbrev pub invariant-loop-member : goal.invariant-loop-member
invariant-loop-member g l = Walked g.T.Kind.sought g.T.Kind.view (placed member_view member_node) l.initial.found l.member-items l.member-index l.found
