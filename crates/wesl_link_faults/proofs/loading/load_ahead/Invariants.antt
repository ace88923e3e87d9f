use Rattle.wesl_link_reach.specs.Loader.{OnlyAdds}
use Rattle.wesl_link_reach.specs.Loading.{GoesOn}
use Rattle.wesl_link_ahead.specs.Ahead.{IsAhead}
use Rattle.wesl_link_faults.specs.Loading.{IsLoaded, tables_in, task_wanted}
use Rattle.wesl_link_faults.proofs.loading.load_ahead.Given as goal

abbrev pub invariant-loop-round : goal.invariant-loop-round
invariant-loop-round g l = record {
  sound : IsLoaded (g.L.Loader.hands l.loader) (g.L.Loader.refuses l.loader) (g.L.Loader.ready l.loader) l.wanted l.loaded;
  ahead : IsAhead (tables_in l.loaded) (task_wanted l.wanted) l.ahead;
  on : GoesOn (tables_in l.fn.loaded) (tables_in l.loaded);
  adds : OnlyAdds (g.L.Loader.hands l.fn.loader) (g.L.Loader.refuses l.fn.loader) (g.L.Loader.ready l.fn.loader) (g.L.Loader.hands l.loader) (g.L.Loader.refuses l.loader) (g.L.Loader.ready l.loader);
}
