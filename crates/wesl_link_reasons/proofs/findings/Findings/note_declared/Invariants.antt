use Rattle.std.proofs.Common.{take, Some}
use Rattle.wesl_link_reasons.specs.Found.{AddsFound, AreIndexed, IsDeclared}
use Rattle.wesl_link_reasons.proofs.findings.Findings.note_declared.Given as goal

abbrev pub invariant-loop-declaration : goal.invariant-loop-declaration
invariant-loop-declaration l = record {
  indexed : AreIndexed l.self.nodes.items l.self.places.entries;
  adds : AddsFound l.fn.self.nodes.items l.self.nodes.items (Some l.asker) (IsDeclared l.table.path (take l.declaration-index l.declaration-items));
}
