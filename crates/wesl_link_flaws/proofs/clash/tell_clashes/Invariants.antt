use Rattle.std.proofs.Common.{take}
use Rattle.wesl_link_flaws.specs.Keys.{AreKeys}
use Rattle.wesl_link_flaws.proofs.Keeping.{IsTelling}
use Rattle.wesl_link_flaws.proofs.clash.tell_clashes.Given as goal

abbrev pub invariant-loop-import : goal.invariant-loop-import
invariant-loop-import l = record {
  keys : AreKeys l.told;
  telling : IsTelling l.table l.fn.told.list.items l.told.list.items (take l.import-index l.import-items);
}
