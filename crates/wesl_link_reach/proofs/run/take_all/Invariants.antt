use Rattle.std.proofs.Common.{length, ◌≤◌, ◌-◌, ◌^◌}
use Rattle.wesl_link_reach.specs.Loader.{OnlyAdds}
use Rattle.wesl_link_reach.specs.Loading.{IsSound, Grows, ModulesDone, SymbolsDone, world_of}
use Rattle.wesl_link_reach.proofs.run.take_all.Given as goal

abbrev pub invariant-turns : goal.invariant-turns
invariant-turns g l = record {
  sound : IsSound (g.L.Loader.hands l.loader) (g.L.Loader.ready l.loader) l.request l.loaded;
  grows : Grows l.fn.loaded l.loaded;
  within : l.place ≤ length (world_of l.request l.loaded);
  done : ModulesDone l.request l.loaded l.place;
  turn_within : l.turn ≤ length l.loaded.symbols.keys;
  turns_done : SymbolsDone l.request l.loaded l.turn;
  adds : OnlyAdds (g.L.Loader.hands l.fn.loader) (g.L.Loader.refuses l.fn.loader) (g.L.Loader.ready l.fn.loader) (g.L.Loader.hands l.loader) (g.L.Loader.refuses l.loader) (g.L.Loader.ready l.loader);
}

abbrev pub decreases-turns : goal.decreases-turns
decreases-turns g l = 2 ^ 64 - l.turn
