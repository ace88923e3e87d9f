use Rattle.std.proofs.Common.{refl, sym, ◌∙◌}
use Rattle.wesl_tree_syntax.specs.Tree.{member_node}
use Rattle.wesl_tree_syntax.specs.View.{member_view, placed}
use Rattle.wesl_tree_bounds.proofs.Below.{end_below, next_below, not_below, placed_below}
use Rattle.wesl_tree_bounds.proofs.parts_bounds.members_are_below.Goals as goal

pub loop-member-init : goal.loop-member-init
loop-member-init c = refl

pub loop-member-preserved : goal.loop-member-preserved
loop-member-preserved c =
    next_below (placed member_view member_node) c.args.bound c.deref-member-items.result.now c.loop-member.member-index c.member-item.result c.loop-member-test.true c.member-item.is (placed_below member_view member_node c.args.bound c.member-item.result ∙ sym c.member_is_below.ensures ∙ c.if-not-member_is_below.false) c.loop-member.invariant

pub returns-then-not-member_is_below : goal.returns-then-not-member_is_below
returns-then-not-member_is_below c =
    not_below (placed member_view member_node) c.args.bound c.deref-member-items.result.now c.args.all.now.items c.loop-member.member-index c.member-item.result c.loop-member-test.true c.member-item.is c.deref-member-items.ensures.value (placed_below member_view member_node c.args.bound c.member-item.result ∙ sym c.member_is_below.ensures ∙ c.if-not-member_is_below.true) c.loop-member.invariant

pub returns : goal.returns
returns c =
    end_below (placed member_view member_node) c.args.bound c.deref-member-items.result.now c.args.all.now.items c.loop-member.member-index c.loop-member-test.false c.deref-member-items.ensures.value c.loop-member.invariant
