use Rattle.std.proofs.Common.{◌≡◌, map, take}
use Rattle.wesl_link_faults.specs.Opening.{AreRight, told_of}
use Rattle.wesl_link_faults.proofs.open.name_all.Given as goal

abbrev pub invariant-loop-found : goal.invariant-loop-found
invariant-loop-found l = record {
  same : map told_of l.named.items ≡ take l.found-index l.told;
  right : AreRight l.absent.entries l.named.items;
}
