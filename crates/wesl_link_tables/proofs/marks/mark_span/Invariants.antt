use Rattle.wesl_link_tables.specs.Marks.{IsMark}
use Rattle.wesl_link_tables.specs.Numbering.{AreRelated, AreNumberedNames, AreNumberedReferences, Grows}
use Rattle.wesl_link_tables.specs.NumbersView.{numbering}
use Rattle.wesl_link_tables.specs.Reading.{all_uses, references_in, unclear_names, span}
use Rattle.wesl_link_tables.proofs.marks.mark_span.Given as goal

abbrev pub invariant-loop-index : goal.invariant-loop-index
invariant-loop-index l = record {
  marks : AreRelated (IsMark (numbering l.numbers)) l.marked.marks.items (span l.from l.index (all_uses l.reading));
  references : AreNumberedReferences (numbering l.numbers) l.marked.asked.references.items (references_in l.reading l.from l.index);
  unclear : AreNumberedNames (numbering l.numbers) l.marked.asked.unclear.items (unclear_names l.reading l.from l.index);
  grows : Grows (numbering l.initial.numbers) (numbering l.numbers);
}
