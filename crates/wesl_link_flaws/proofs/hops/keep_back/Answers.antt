use Rattle.std.proofs.Common.{◌≡◌, ◌++◌, ◌∷◌, []}
use Rattle.wesl_link_flaws.proofs.Ways.{back_hop, back_next, kept_more}
use Rattle.wesl_link_flaws.proofs.hops.keep_back.Goals as goal

pub back-preserved : goal.back-preserved
back-preserved c =
    let popped : c.back.trail.items ≡ c.pop.new.self.items ++ c.in-Some.look_up ∷ [] = rw c.in-Some.is at c.pop.ensures.items in
    record {
      kept = kept_more _ _ c.in-Some.look_up c.back.next c.args.end c.in_ok-keep.ensures.numbered c.in_ok-keep.ensures.asked c.in_ok-keep.ensures.kept
          (back_hop _ _ _ _ _ c.in-Some.look_up c.back.next popped c.back.invariant.back c.in_ok-keep.ensures.asked) c.back.invariant.kept;
      back = back_next _ _ _ _ _ c.in-Some.look_up c.back.next popped c.back.invariant.back c.in_ok-keep.ensures.asked;
    }
