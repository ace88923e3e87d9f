use Rattle.std.proofs.Common.{take}
use Rattle.wesl_link_tables.specs.Marks.{AreMarked}
use Rattle.wesl_link_tables.specs.Numbering.{AreNumberedDeclarations, Grows}
use Rattle.wesl_link_tables.specs.NumbersView.{numbering}
use Rattle.wesl_link_tables.specs.Reading.{own_path, unit_in}
use Rattle.wesl_link_tables.specs.Tables.{uses}
use Rattle.wesl_link_tables.proofs.Tabling.{made_in}
use Rattle.wesl_link_tables.proofs.table.add_declarations.Given as goal

abbrev pub invariant-loop-i : goal.invariant-loop-i
invariant-loop-i l = record {
  declared : AreNumberedDeclarations (numbering l.numbers) l.declared.declarations.items (take l.i (made_in l.reading));
  marked : AreMarked (numbering l.numbers) l.declared.marks.items (take l.i (uses (own_path l.reading) (unit_in l.reading)));
  grows : Grows (numbering l.initial.numbers) (numbering l.numbers);
}
