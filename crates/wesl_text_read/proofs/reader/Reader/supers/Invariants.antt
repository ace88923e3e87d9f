use Rattle.std.proofs.Common.{◌+◌, ◌≤◌, length, Some}
use Rattle.wesl_text_read.specs.First.{supers}
use Rattle.wesl_text_read.specs.Leads.{Leads, ahead}
use Rattle.wesl_text_read.proofs.reader.Reader.supers.Given as goal

abbrev pub invariant-supers : goal.invariant-supers
invariant-supers l = record {
  leads : Leads (λ _. Some (supers 1 (ahead l.fn.self))) (λ _. Some (supers l.up (ahead l.self))) l.fn.self l.self;
  few : l.up + length (ahead l.self) ≤ 1 + length (ahead l.fn.self);
}

abbrev pub decreases-supers : goal.decreases-supers
decreases-supers l = length (ahead l.self)
