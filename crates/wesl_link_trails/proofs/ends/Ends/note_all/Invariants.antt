use Rattle.std.proofs.Common.{◌≡◌, take, Contains}
use Rattle.wesl_link_symbols.specs.declared.ids.PathId.{PathId}
use Rattle.wesl_tree_base.specs.declared.ids.NameId.{NameId}
use Rattle.wesl_link_symbols.specs.declared.symbols.LookUp.{LookUp}
use Rattle.wesl_link_reach.specs.Loading.{GoesOn}
use Rattle.wesl_link_reach.specs.Trodden.{symbol_of}
use Rattle.wesl_link_trails.specs.Ends.{AreNumbered}
use Rattle.wesl_link_trails.proofs.ends.Ends.note_all.Given as goal

abbrev pub invariant-loop-look_up : goal.invariant-loop-look_up
invariant-loop-look_up g l = record {
  numbered : AreNumbered l.self.asked.items l.self.firsts.entries;
  on : GoesOn l.fn.self.asked.items l.self.asked.items;
  asked : (k : LookUp PathId NameId) → Contains (take l.look_up-index l.look_ups) k → Contains l.self.asked.items (symbol_of k);
  kept : l.self.kept ≡ l.fn.self.kept;
}
