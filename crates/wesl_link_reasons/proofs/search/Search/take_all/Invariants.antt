use Rattle.std.proofs.Common.{◌≤◌, ◌-◌, ◌^◌, length, None}
use Rattle.wesl_link_reasons.specs.Searching.{AreDone, AreThrough, Grows, IsSound, world_in}
use Rattle.wesl_link_reasons.proofs.search.Search.take_all.Given as goal

abbrev pub invariant-turns : goal.invariant-turns
invariant-turns l = record {
  sound : IsSound l.map l.self.findings;
  grows : Grows l.fn.self l.self;
  through : AreThrough (world_in l.map) l.self.findings.nodes.items l.self.trail None;
  within : l.place ≤ length l.self.findings.nodes.items;
  done : AreDone l.map l.self l.place;
}

abbrev pub decreases-turns : goal.decreases-turns
decreases-turns l = 2 ^ 64 - l.place
