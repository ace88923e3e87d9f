use Rattle.std.proofs.Common.{refl, sym, ◌∙◌}
use Rattle.wesl_json_form.specs.Schema.{a_member}
use Rattle.wesl_tree_syntax.specs.Tree.{member_node, members}
use Rattle.wesl_tree_syntax.specs.View.{member_view, placed}
use Rattle.wesl_json_read.proofs.Noting.{all_items, is_clear, no_items, no_list, one_item, stopped}
use Rattle.wesl_json_read_unit.proofs.declaration.members.Goals as goal
use Rattle.wesl_json_read_unit.proofs.declaration.members.Goals.{else-not-is_stopped, then-not-is_stopped}

pub loop-index-init : goal.loop-index-init
loop-index-init c = no_items (placed member_view member_node) members a_member c.in-Some.ensures.same c.room-members.ensures.empty c.room-members.ensures.noted

pub loop-index-preserved : goal.loop-index-preserved
loop-index-preserved c =
    elim c.if-not-is_stopped.branch [
      | then-not-is_stopped w ↦ rw (w.reader-is, w.members-is) (one_item (placed member_view member_node) members a_member c.loop-index-test.true c.index-items-index.is c.loop-index.invariant (is_clear _ (sym c.is_stopped.ensures ∙ w.if-not-is_stopped.true)) w.member-member.ensures w.put.ensures.put w.put.ensures.noted)
      | else-not-is_stopped w ↦ rw (w.reader-is, w.members-is) (stopped (placed member_view member_node) members a_member (sym c.is_stopped.ensures ∙ w.if-not-is_stopped.false) c.loop-index.invariant)
    ]

pub returns : goal.returns
returns c = all_items (placed member_view member_node) members a_member refl c.in-Some.ensures.there c.loop-index-test.false c.loop-index.invariant c.within.ensures

pub returns-in_default : goal.returns-in_default
returns-in_default c = no_list (placed member_view member_node) members a_member c.new.ensures.items c.in_default.ensures.lacks
