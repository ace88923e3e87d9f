use Rattle.std.proofs.Common.{◌-◌, ◌^◌, vec_len}
use Rattle.wesl_link_flaws.specs.Keys.{AreKeys}
use Rattle.wesl_explain_ways.proofs.way.Rings.walk.Given as goal

abbrev pub invariant-hops : goal.invariant-hops
invariant-hops l = AreKeys l.asked

abbrev pub decreases-hops : goal.decreases-hops
decreases-hops l = 2 ^ 64 - vec_len l.met
