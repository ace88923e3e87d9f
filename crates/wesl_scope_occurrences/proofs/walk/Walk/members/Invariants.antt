use Rattle.wesl_tree_syntax.specs.Tree.{member_node}
use Rattle.wesl_tree_syntax.specs.View.{member_view, placed}
use Rattle.wesl_scope_occurrences.specs.Views.{here_view}
use Rattle.wesl_scope_occurrences.proofs.Steps.{Passed}
use Rattle.wesl_scope_occurrences.proofs.walk.Walk.members.Given as goal

abbrev pub invariant-loop-member : goal.invariant-loop-member
invariant-loop-member g l = Passed g.H.Handler.after (placed member_view member_node) (here_view l.here) l.initial.self l.self l.member-items l.member-index
