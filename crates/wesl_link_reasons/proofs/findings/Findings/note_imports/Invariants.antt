use Rattle.std.proofs.Common.{take, Some}
use Rattle.wesl_link_reasons.specs.Found.{AddsFound, AreIndexed, IsImported}
use Rattle.wesl_link_reasons.proofs.findings.Findings.note_imports.Given as goal

abbrev pub invariant-loop-import : goal.invariant-loop-import
invariant-loop-import l = record {
  indexed : AreIndexed l.self.nodes.items l.self.places.entries;
  adds : AddsFound l.fn.self.nodes.items l.self.nodes.items (Some l.asker) (IsImported (take l.import-index l.import-items));
}
