use Rattle.std.proofs.Common.{take, None, Contains}
use Rattle.wesl_link_symbols.specs.declared.ids.PathId.{PathId}
use Rattle.wesl_tree_base.specs.declared.ids.NameId.{NameId}
use Rattle.wesl_link_symbols.specs.declared.symbols.LookUp.{LookUp}
use Rattle.wesl_link_reasons.specs.Searching.{AreThrough, Grows, IsSound, world_in}
use Rattle.wesl_link_reasons.proofs.search.Search.follow_all.Given as goal

abbrev pub invariant-loop-look_up : goal.invariant-loop-look_up
invariant-loop-look_up l = record {
  sound : IsSound l.map l.self.findings;
  grows : Grows l.fn.self l.self;
  through : AreThrough (world_in l.map) l.self.findings.nodes.items l.self.trail None;
  followed : (k : LookUp PathId NameId) → Contains (take l.look_up-index l.look_ups) k → Contains l.self.trail k;
}
