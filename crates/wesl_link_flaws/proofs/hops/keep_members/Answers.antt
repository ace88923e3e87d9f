use Rattle.std.proofs.Common.{◌≡◌, Some, slice_get, refl}
use Rattle.wesl_link_reach.proofs.Following.{puts_on}
use Rattle.wesl_link_reach.proofs.Growing.{goes_on_itself, goes_on_trans, index_at}
use Rattle.wesl_link_flaws.proofs.Ways.{member_kept, ring_turn}
use Rattle.wesl_link_flaws.proofs.hops.keep_members.Goals as goal

pub loop-member-init : goal.loop-member-init
loop-member-init c = record { kept = c.requires.kept; on = goes_on_itself _; turned = c.requires.ring.walk }

pub loop-member-preserved : goal.loop-member-preserved
loop-member-preserved c =
    let at : slice_get c.args.members.now c.loop-member.member-index ≡ Some _ = index_at c.args.members.now c.args.members.now c.loop-member.member-index _ refl c.loop-member-test.true in
    record {
      kept = member_kept _ _ _ c.args.members.now c.loop-member.member-index _ c.loop-member.next c.args.current _ at c.missing.ensures c.requires.ring c.loop-member.invariant.on c.loop-member.invariant.turned
          c.in_ok-keep.ensures.numbered c.in_ok-keep.ensures.asked c.in_ok-keep.ensures.kept c.loop-member.invariant.kept;
      on = goes_on_trans _ _ _ c.loop-member.invariant.on (puts_on _ _ _ c.in_ok-keep.ensures.asked);
      turned = ring_turn _ c.args.members.now c.loop-member.member-index _ c.loop-member.next c.args.current at c.loop-member.invariant.turned;
    }
