use Rattle.wesl_text_print.proofs.Lists.{AreCommasBefore, node_slots}
use Rattle.wesl_text_form.specs.Productions.{a_member}
use Rattle.wesl_tree_syntax.specs.Tree.{member_node}
use Rattle.wesl_tree_syntax.specs.View.{member_view, placed}
use Rattle.wesl_text_print_unit.proofs.declaration.print_members.Given as goal

abbrev pub invariant-loop-member : goal.invariant-loop-member
invariant-loop-member g l = AreCommasBefore (node_slots l.names a_member (placed member_view member_node)) g.S.TokenSink.after l.member-items l.initial.out l.out l.member-index l.is_first
