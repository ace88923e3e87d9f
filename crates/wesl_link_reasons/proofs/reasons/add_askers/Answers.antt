use Rattle.std.proofs.Common.{◌<◌, length, arith, rules}
use Rattle.std.proofs.lemmas.Option.{slice_get-get_or}
use Rattle.wesl_link_reasons.proofs.Ending.{back_start, back_next, back_ends, behind_start, behind_next}
use Rattle.wesl_link_reasons.proofs.reasons.add_askers.Goals as goal

pub askers-init : goal.askers-init
askers-init c = record {
  within = c.requires.within;
  back = back_start c.args.nodes.now c.args.place _ _ _ (slice_get-get_or c.args.nodes.now c.args.place _ c.requires.within) c.requires.empty c.in_ok-push.ensures.items;
  behind = behind_start c.args.nodes.now c.args.place _ _ _ (slice_get-get_or c.args.nodes.now c.args.place _ c.requires.within) c.requires.empty c.in_ok-push.ensures.items;
}

pub offset_bounds-nodes-asker : goal.offset_bounds-nodes-asker
offset_bounds-nodes-asker c =
    let before : c.in-Some.asker < c.askers.at =
    c.requires.ordered c.askers.at c.in-Some.asker _ (slice_get-get_or c.args.nodes.now c.askers.at _ c.askers.invariant.within) c.in-Some.is in
    let here : c.askers.at < length c.args.nodes.now = c.askers.invariant.within in
    let below : c.in-Some.asker < length c.args.nodes.now = omega arith in
    search rules

pub bounds-nodes-asker : goal.bounds-nodes-asker
bounds-nodes-asker c =
    let before : c.in-Some.asker < c.askers.at =
    c.requires.ordered c.askers.at c.in-Some.asker _ (slice_get-get_or c.args.nodes.now c.askers.at _ c.askers.invariant.within) c.in-Some.is in
    let here : c.askers.at < length c.args.nodes.now = c.askers.invariant.within in
    omega arith

pub askers-smaller : goal.askers-smaller
askers-smaller c = c.requires.ordered c.askers.at c.in-Some.asker _ (slice_get-get_or c.args.nodes.now c.askers.at _ c.askers.invariant.within) c.in-Some.is

pub askers-preserved : goal.askers-preserved
askers-preserved c =
    let before : c.in-Some.asker < c.askers.at =
    c.requires.ordered c.askers.at c.in-Some.asker _ (slice_get-get_or c.args.nodes.now c.askers.at _ c.askers.invariant.within) c.in-Some.is in
    let here : c.askers.at < length c.args.nodes.now = c.askers.invariant.within in
    let below : c.in-Some.asker < length c.args.nodes.now = omega arith in
    record {
      within = below;
      back = back_next c.args.nodes.now c.args.place c.askers.at c.in-Some.asker _ _ _ _ c.askers.invariant.back (slice_get-get_or c.args.nodes.now c.askers.at _ here) c.in-Some.is
          (slice_get-get_or c.args.nodes.now c.in-Some.asker _ below) c.in_ok-push-2.ensures.items;
      behind = behind_next c.args.nodes.now c.askers.at c.in-Some.asker _ _ _ c.requires.once c.askers.invariant.behind (slice_get-get_or c.args.nodes.now c.in-Some.asker _ below) before c.in_ok-push-2.ensures.items;
    }

pub returns-clause-told : goal.returns-clause-told
returns-clause-told c = back_ends c.args.nodes.now c.args.place c.askers.at _ c.askers.chain.items c.askers.invariant.back (slice_get-get_or c.args.nodes.now c.askers.at _ c.askers.invariant.within) c.in_default.is
