use Rattle.wesl_text_guard.specs.Guards.{as_it_is}
use Rattle.wesl_tree_syntax.specs.Tree.{member_node}
use Rattle.wesl_tree_syntax.specs.View.{member_view, placed}
use Rattle.wesl_text_guard.proofs.Listed.{SoFar}
use Rattle.wesl_text_guard.proofs.guard.Guard.members.Given as goal

abbrev pub invariant-loop-member : goal.invariant-loop-member
invariant-loop-member l = SoFar as_it_is (placed member_view member_node) l.fn.self l.self l.initial.member-items l.member-index l.member-items
