use Rattle.wesl_text_guard.specs.Guards.{as_it_is}
use Rattle.std.proofs.Common.{arith, get_or}
use Rattle.wesl_tree_syntax.specs.Tree.{member_node, members}
use Rattle.wesl_tree_syntax.specs.View.{member_view, placed}
use Rattle.wesl_text_guard.proofs.Listed.{all_guarded, none_yet, nothing_asked, one_more}
use Rattle.wesl_text_guard.proofs.Parts.{of_place}
use Rattle.wesl_text_guard.proofs.guard.Guard.members.Goals as goal

pub loop-member-init : goal.loop-member-init
loop-member-init c = none_yet as_it_is (placed member_view member_node) _ _

pub loop-member-preserved : goal.loop-member-preserved
loop-member-preserved c =
    let l = c.loop-member in
    let x = get_or l.member-items l.member-index c.member-item.result in
    one_more as_it_is (placed member_view member_node) c.member-item.result _ (omega arith) l.invariant (of_place member_view member_node x c.member.new.member c.member.ensures)

pub returns : goal.returns
returns c =
    let l = c.loop-member in
    let lent = c.deref_mut-member-items in
    all_guarded as_it_is (placed member_view member_node) members (nothing_asked (placed member_view member_node)) c.args.all.now l.invariant lent.ensures.value (omega (arith, l.auto.member-items, lent.ensures.len)) (omega arith)
