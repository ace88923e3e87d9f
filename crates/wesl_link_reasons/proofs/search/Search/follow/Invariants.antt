use Rattle.std.proofs.Common.{◌≡◌, ◌⊎◌, ◌-◌, ◌^◌, length, Some, Contains}
use Rattle.wesl_link_reasons.specs.Searching.{AreThrough, Grows, IsOnWay, IsSound, task_in, world_in}
use Rattle.wesl_link_reasons.proofs.search.Search.follow.Given as goal

abbrev pub invariant-hops : goal.invariant-hops
invariant-hops l = record {
  sound : IsSound l.map l.self.findings;
  grows : Grows l.fn.self l.self;
  way : IsOnWay (world_in l.map) (task_in l.map) l.self.findings.nodes.items l.asker l.current;
  through : AreThrough (world_in l.map) l.self.findings.nodes.items l.self.trail (Some l.current);
  started : Contains l.self.trail l.fn.start ⊎ (l.current ≡ l.fn.start);
}

abbrev pub decreases-hops : goal.decreases-hops
decreases-hops l = 2 ^ 64 - length l.self.trail
