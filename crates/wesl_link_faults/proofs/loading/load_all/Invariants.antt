use Rattle.std.proofs.Common.{◌-◌, length}
use Rattle.wesl_link_reach.specs.Loader.{OnlyAdds}
use Rattle.wesl_link_reach.specs.Loading.{GoesOn}
use Rattle.wesl_link_faults.specs.Loading.{IsLoaded, asked_in, tables_in}
use Rattle.wesl_link_faults.proofs.loading.load_all.Given as goal

abbrev pub invariant-rounds : goal.invariant-rounds
invariant-rounds g l = record {
  sound : IsLoaded (g.L.Loader.hands l.loader) (g.L.Loader.refuses l.loader) (g.L.Loader.ready l.loader) l.wanted l.loaded;
  on : GoesOn (tables_in l.fn.loaded) (tables_in l.loaded);
  adds : OnlyAdds (g.L.Loader.hands l.fn.loader) (g.L.Loader.refuses l.fn.loader) (g.L.Loader.ready l.fn.loader) (g.L.Loader.hands l.loader) (g.L.Loader.refuses l.loader) (g.L.Loader.ready l.loader);
}

abbrev pub decreases-rounds : goal.decreases-rounds
decreases-rounds g l = l.wanted.limit - length (asked_in l.loaded)
