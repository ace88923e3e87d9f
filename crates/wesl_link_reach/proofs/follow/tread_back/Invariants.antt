use Rattle.std.proofs.Common.{◌≡◌, vec_len}
use Rattle.wesl_link_reach.specs.Loading.{GoesOn, with_trodden, world_of}
use Rattle.wesl_link_reach.specs.Trodden.{AreTrodden, IsOnWay}
use Rattle.wesl_link_reach.proofs.follow.tread_back.Given as goal

abbrev pub invariant-back : goal.invariant-back
invariant-back l = record {
  rest : l.loaded ≡ with_trodden l.fn.loaded l.loaded.trodden;
  trodden : AreTrodden (world_of l.request l.fn.loaded) l.fn.loaded.symbols.keys l.loaded.trodden.steps;
  way : IsOnWay (world_of l.request l.fn.loaded) l.fn.loaded.symbols.keys l.loaded.trodden.steps l.fn.start l.trail.items l.symbol;
  more : GoesOn l.fn.loaded.trodden.steps l.loaded.trodden.steps;
}

abbrev pub decreases-back : goal.decreases-back
decreases-back l = vec_len l.trail
