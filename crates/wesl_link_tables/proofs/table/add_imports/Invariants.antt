use Rattle.std.proofs.Common.{take, map}
use Rattle.wesl_link_tables.specs.Spelling.{spelled_import}
use Rattle.wesl_link_tables.specs.Numbering.{AreNumberedImports, Grows}
use Rattle.wesl_link_tables.specs.NumbersView.{numbering}
use Rattle.wesl_link_tables.proofs.table.add_imports.Given as goal

abbrev pub invariant-loop-i : goal.invariant-loop-i
invariant-loop-i l = record {
  numbered : AreNumberedImports (numbering l.numbers) l.found.items (map (spelled_import (numbering l.initial.numbers).paths l.names) (take l.i l.imports));
  grows : Grows (numbering l.initial.numbers) (numbering l.numbers);
}
