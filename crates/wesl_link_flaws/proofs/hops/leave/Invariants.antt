use Rattle.std.proofs.Common.{◌≡◌, ◌++◌, reverse, vec_len}
use Rattle.wesl_link_flaws.proofs.hops.leave.Given as goal

abbrev pub invariant-back : goal.invariant-back
invariant-back l = record {
  whole : l.fn.trail.items ≡ l.trail.items ++ reverse l.members.items;
}

abbrev pub decreases-back : goal.decreases-back
decreases-back l = vec_len l.trail
