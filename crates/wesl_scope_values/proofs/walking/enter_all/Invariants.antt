use Rattle.std.proofs.Common.{◌≡◌, drop}
use Rattle.wesl_scope_values.specs.Walks.{visits, all_entered}
use Rattle.wesl_scope_values.proofs.walking.enter_all.Given as goal

abbrev pub invariant-loop-target : goal.invariant-loop-target
invariant-loop-target l = all_entered (drop l.target-index l.targets.items) (visits l.marks l.nodes.items) ≡ all_entered l.targets.items (visits l.initial.marks l.initial.nodes.items)
