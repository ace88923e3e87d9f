use Rattle.wesl_tree_syntax.specs.Tree.{member_node, members}
use Rattle.wesl_tree_syntax.specs.View.{member_view, placed}
use Rattle.wesl_tree_copies.proofs.Listed.{all_copied, none_yet, one_more}
use Rattle.wesl_tree_copies.proofs.copying.Copying.members.Goals as goal

pub loop-member-init : goal.loop-member-init
loop-member-init c = none_yet (placed member_view member_node) (placed member_view member_node) _ _ _ _ c.list-copies.ensures.empty c.list-copies.ensures.noted

pub loop-member-preserved : goal.loop-member-preserved
loop-member-preserved c =
    one_more (placed member_view member_node) (placed member_view member_node) c.loop-member-test.true c.member-item.is c.loop-member.invariant c.member_node-copy.ensures c.push.ensures.noted c.push.ensures.pushed

pub returns : goal.returns
returns c = all_copied (placed member_view member_node) (placed member_view member_node) members c.args.all.now c.loop-member.copies c.loop-member.invariant c.deref-member-items.ensures.value c.loop-member-test.false
