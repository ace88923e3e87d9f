use Rattle.std.proofs.Common.{take}
use Rattle.wesl_validate_faults.proofs.Telling.{TellEach}
use Rattle.wesl_validate_faults.proofs.told.diagnostics_of.Given as goal

abbrev pub invariant-loop-finding : goal.invariant-loop-finding
invariant-loop-finding l = TellEach (take l.finding-index l.findings.items) l.told.items
