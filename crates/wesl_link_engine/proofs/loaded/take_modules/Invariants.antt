use Rattle.std.proofs.Common.{◌≡◌, take, drop, Contains}
use Rattle.wesl_link_symbols.specs.declared.ids.PathId.{PathId}
use Rattle.wesl_tree_base.specs.declared.ids.NameId.{NameId}
use Rattle.wesl_link_symbols.specs.Tables.{Table}
use Rattle.wesl_link_tables.specs.Numbering.{AreRelated}
use Rattle.wesl_link_tables.specs.NumbersView.{numbering}
use Rattle.wesl_link_engine.specs.Taking.{IsTaken, unit_at}
use Rattle.wesl_link_engine.proofs.loaded.take_modules.Given as goal

abbrev pub invariant-loop-index : goal.invariant-loop-index
invariant-loop-index l = record {
  taken : AreRelated (IsTaken (numbering l.numbers) l.initial.units.entries l.tables) (take l.index l.tables) l.modules.items;
  left : (t : Table PathId NameId) → Contains (drop l.index l.tables) t → unit_at l.units.entries t.path ≡ unit_at l.initial.units.entries t.path;
}
