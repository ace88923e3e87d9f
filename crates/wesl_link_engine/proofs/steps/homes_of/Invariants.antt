use Rattle.std.proofs.Common.{◌∷◌, take}
use Rattle.wesl_link_engine.proofs.Homes.{AreRight, HaveHomes}
use Rattle.wesl_link_engine.proofs.steps.homes_of.Given as goal

abbrev pub invariant-loop-index : goal.invariant-loop-index
invariant-loop-index l = record {
  right : AreRight l.link l.homes.entries;
  all : HaveHomes l.link (l.link.root ∷ take l.index l.link.others.items) l.homes.entries;
}
