use Rattle.std.proofs.Common.{take, Contains}
use Rattle.wesl_link_symbols.specs.declared.ids.PathId.{PathId}
use Rattle.wesl_tree_base.specs.declared.ids.NameId.{NameId}
use Rattle.wesl_link_symbols.specs.declared.symbols.LookUp.{LookUp}
use Rattle.wesl_link_reach.specs.Loader.{OnlyAdds}
use Rattle.wesl_link_reach.specs.Loading.{IsSound, Grows, IsAnswered}
use Rattle.wesl_link_reach.proofs.follow.follow_all.Given as goal

abbrev pub invariant-loop-look_up : goal.invariant-loop-look_up
invariant-loop-look_up g l = record {
  sound : IsSound (g.L.Loader.hands l.loader) (g.L.Loader.ready l.loader) l.request l.loaded;
  grows : Grows l.fn.loaded l.loaded;
  answered : (k : LookUp PathId NameId) → Contains (take l.look_up-index l.asked) k → IsAnswered l.loaded.answers.entries k;
  adds : OnlyAdds (g.L.Loader.hands l.fn.loader) (g.L.Loader.refuses l.fn.loader) (g.L.Loader.ready l.fn.loader) (g.L.Loader.hands l.loader) (g.L.Loader.refuses l.loader) (g.L.Loader.ready l.loader);
}
