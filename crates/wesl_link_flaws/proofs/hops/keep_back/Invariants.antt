use Rattle.std.proofs.Common.{vec_len}
use Rattle.wesl_link_flaws.specs.Ends.{AreKept, IsBack}
use Rattle.wesl_link_flaws.specs.Searching.{world_in}
use Rattle.wesl_link_flaws.proofs.hops.keep_back.Given as goal

abbrev pub invariant-back : goal.invariant-back
invariant-back l = record {
  kept : AreKept (world_in l.given) l.entered l.ends;
  back : IsBack (world_in l.given) l.entered l.ends.asked.items l.fn.start l.trail.items l.next l.end;
}

abbrev pub decreases-back : goal.decreases-back
decreases-back l = vec_len l.trail
