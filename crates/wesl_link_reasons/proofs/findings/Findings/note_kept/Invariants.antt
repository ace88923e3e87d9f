use Rattle.std.proofs.Common.{take, None}
use Rattle.wesl_link_reasons.specs.Found.{AddsFound, AreIndexed, IsKeptIn}
use Rattle.wesl_link_reasons.proofs.findings.Findings.note_kept.Given as goal

abbrev pub invariant-loop-name : goal.invariant-loop-name
invariant-loop-name l = record {
  indexed : AreIndexed l.self.nodes.items l.self.places.entries;
  adds : AddsFound l.fn.self.nodes.items l.self.nodes.items None (IsKeptIn (take l.name-index l.kept));
}
