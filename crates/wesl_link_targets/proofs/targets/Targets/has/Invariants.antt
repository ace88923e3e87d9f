use Rattle.std.proofs.Common.{◌-◌}
use Rattle.wesl_link_targets.proofs.Passed.{NoneBefore}
use Rattle.wesl_link_targets.proofs.targets.Targets.has.Given as goal

abbrev pub invariant-row : goal.invariant-row
invariant-row l = NoneBefore l.alive l.name l.from l.sought l.self.row.imports.items l.i

abbrev pub decreases-row : goal.decreases-row
decreases-row l = l.extent.end - l.i
