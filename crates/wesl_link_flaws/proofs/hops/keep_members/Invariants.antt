use Rattle.std.proofs.Common.{take, drop, ◌++◌, ◌∷◌}
use Rattle.wesl_link_reach.specs.Loading.{GoesOn}
use Rattle.wesl_link_reach.specs.World.{Walk}
use Rattle.wesl_link_flaws.specs.Ends.{AreKept}
use Rattle.wesl_link_flaws.specs.Searching.{world_in}
use Rattle.wesl_link_flaws.proofs.hops.keep_members.Given as goal

abbrev pub invariant-loop-member : goal.invariant-loop-member
invariant-loop-member l = record {
  kept : AreKept (world_in l.given) l.entered l.ends;
  on : GoesOn l.fn.ends.asked.items l.ends.asked.items;
  turned : Walk (world_in l.given) l.next (drop l.member-index l.members ++ l.fn.current ∷ take l.member-index l.members) l.next;
}
