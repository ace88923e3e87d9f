use Rattle.std.proofs.Common.{take, Contains}
use Rattle.wesl_tree_base.specs.declared.ids.NameId.{NameId}
use Rattle.wesl_link_reach.specs.Loader.{OnlyAdds}
use Rattle.wesl_link_reach.specs.Loading.{IsSound, Grows, IsAnswered, kept_look_up}
use Rattle.wesl_link_reach.proofs.run.follow_kept.Given as goal

abbrev pub invariant-loop-name : goal.invariant-loop-name
invariant-loop-name g l = record {
  sound : IsSound (g.L.Loader.hands l.loader) (g.L.Loader.ready l.loader) l.request l.loaded;
  grows : Grows l.fn.loaded l.loaded;
  answered : (n : NameId) → Contains (take l.name-index l.name-items) n → IsAnswered l.loaded.answers.entries (kept_look_up l.request.root.path n);
  adds : OnlyAdds (g.L.Loader.hands l.fn.loader) (g.L.Loader.refuses l.fn.loader) (g.L.Loader.ready l.fn.loader) (g.L.Loader.hands l.loader) (g.L.Loader.refuses l.loader) (g.L.Loader.ready l.loader);
}
