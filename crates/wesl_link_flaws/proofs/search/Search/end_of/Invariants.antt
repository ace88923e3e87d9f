use Rattle.std.proofs.Common.{◌-◌, ◌^◌, vec_len, Contains}
use Rattle.wesl_link_symbols.specs.declared.ids.PathId.{PathId}
use Rattle.wesl_tree_base.specs.declared.ids.NameId.{NameId}
use Rattle.wesl_link_symbols.specs.declared.symbols.LookUp.{LookUp}
use Rattle.wesl_link_reach.specs.Trodden.{symbol_of}
use Rattle.wesl_link_reach.proofs.Following.{IsTrail}
use Rattle.wesl_link_trails.specs.Ends.{IsNotBefore}
use Rattle.wesl_link_flaws.specs.Keys.{AreKeys}
use Rattle.wesl_link_flaws.specs.Searching.{Grows, HasEntered, IsSound, task_in, world_in}
use Rattle.wesl_link_flaws.proofs.search.Search.end_of.Given as goal

abbrev pub invariant-hops : goal.invariant-hops
invariant-hops l = record {
  sound : IsSound l.given l.self;
  grows : Grows l.fn.self l.self;
  trail : IsTrail (world_in l.given) (task_in l.given) l.fn.start l.trail.items l.asked.list.items l.current;
  keys : AreKeys l.asked;
  entered : (b : LookUp PathId NameId) → Contains l.trail.items b → HasEntered l.self b.path;
  bound : (b : LookUp PathId NameId) → Contains l.trail.items b → IsNotBefore l.self.ends.asked.items (symbol_of b) l.bound;
}

abbrev pub decreases-hops : goal.decreases-hops
decreases-hops l = 2 ^ 64 - vec_len l.trail
