use Rattle.std.proofs.Common.{◌≡◌, drop}
use Rattle.wesl_validate_faults.specs.Gathered.{findings_view}
use Rattle.wesl_validate_faults.specs.Listed.{each_once}
use Rattle.wesl_validate_faults.proofs.Collecting.{more}
use Rattle.wesl_validate_faults.proofs.once.each_once.Given as goal

abbrev pub invariant-loop-finding : goal.invariant-loop-finding
invariant-loop-finding l = more (findings_view l.once.keys) (findings_view (drop l.finding-index l.findings.items)) ≡ each_once (findings_view l.findings.items)
