use Rattle.std.proofs.Common.{◌≡◌, rules}
use Rattle.wesl_link_reach.proofs.Growing.{goes_on_itself}
use Rattle.wesl_link_flaws.proofs.Ways.{entry_kept, entry_way, kept_noted, ring_there}
use Rattle.wesl_link_flaws.proofs.hops.close_at.Goals as goal

pub keep-requires : goal.keep-requires
keep-requires c = record { numbered = c.in_ok-note_all.ensures.numbered }

pub keep_ring-requires-clause-kept : goal.keep_ring-requires-clause-kept
keep_ring-requires-clause-kept c =
    let d : c.deref.result.now ≡ c.args.ring.now.members.items = search rules in
    let d2 : c.deref-2.result.now ≡ c.args.ring.now.members.items = search rules in
    entry_kept c.args.trail.now.items c.args.ring.now.members.items c.args.start c.args.ring.now.entry c.args.current _ _ c.missing-end.ensures c.requires.by c.requires.asked (rw d at c.behind_entry-behind.ensures)
    c.note_all.new.self c.keep.new.self c.in_ok-keep.ensures.numbered (rw d2 at c.in_ok-note_all.ensures.asked) c.in_ok-keep.ensures.asked c.in_ok-keep.ensures.kept
    (kept_noted _ _ c.in_ok-note_all.ensures.numbered c.in_ok-note_all.ensures.on c.note_all.ensures.kept c.requires.kept)

pub keep_ring-requires-clause-ring : goal.keep_ring-requires-clause-ring
keep_ring-requires-clause-ring c =
    let d : c.deref.result.now ≡ c.args.ring.now.members.items = search rules in
    let d2 : c.deref-2.result.now ≡ c.args.ring.now.members.items = search rules in
    let d3 : c.deref-3.result.now ≡ c.args.ring.now.members.items = search rules in
    λ hops. rw d3
    (ring_there c.args.trail.now.items c.args.ring.now.members.items c.args.start c.args.ring.now.entry c.args.current _ _ c.missing-end.ensures c.requires.by c.requires.asked (rw d at c.behind_entry-behind.ensures)
    _ _ _ (rw d2 at c.in_ok-note_all.ensures.asked) c.in_ok-keep.ensures.asked (goes_on_itself _) hops)

pub keep_back-requires-clause-back : goal.keep_back-requires-clause-back
keep_back-requires-clause-back c =
    let d : c.deref.result.now ≡ c.args.ring.now.members.items = search rules in
    let d2 : c.deref-2.result.now ≡ c.args.ring.now.members.items = search rules in
    entry_way c.args.trail.now.items c.args.ring.now.members.items c.args.start c.args.ring.now.entry c.args.current _ _ c.missing-end.ensures c.requires.by c.requires.asked (rw d at c.behind_entry-behind.ensures)
    _ _ _ (rw d2 at c.in_ok-note_all.ensures.asked) c.in_ok-keep.ensures.asked c.in_ok-keep_ring.ensures.on
