use Rattle.std.proofs.Common.{take}
use Rattle.wesl_link_tables.specs.Numbering.{AreRelated, Grows, NameAt}
use Rattle.wesl_link_tables.specs.NumbersView.{numbering}
use Rattle.wesl_link_tables.proofs.reading.add_ids.Given as goal

abbrev pub invariant-loop-i : goal.invariant-loop-i
invariant-loop-i l = record {
  numbered : AreRelated (NameAt (numbering l.numbers)) l.ids.items (take l.i l.names);
  grows : Grows (numbering l.initial.numbers) (numbering l.numbers);
}
