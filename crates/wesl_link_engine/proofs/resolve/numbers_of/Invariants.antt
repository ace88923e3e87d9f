use Rattle.std.proofs.Common.{take}
use Rattle.wesl_tree_base.specs.Borrowed.{texts}
use Rattle.wesl_link_tables.specs.Numbering.{AreRelated, Grows, NameAt}
use Rattle.wesl_link_tables.specs.NumbersView.{numbering}
use Rattle.wesl_link_engine.proofs.resolve.numbers_of.Given as goal

abbrev pub invariant-loop-name : goal.invariant-loop-name
invariant-loop-name l = record {
  numbered : AreRelated (NameAt (numbering l.numbers)) l.kept.items (texts (take l.name-index l.keep));
  grows : Grows (numbering l.initial.numbers) (numbering l.numbers);
}
