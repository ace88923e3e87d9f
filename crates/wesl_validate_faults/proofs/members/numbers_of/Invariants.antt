use Rattle.std.proofs.Common.{◌≡◌, map, take}
use Rattle.wesl_validate_faults.proofs.members.numbers_of.Given as goal

abbrev pub invariant-loop-entry : goal.invariant-loop-entry
invariant-loop-entry l = l.numbers.items ≡ map (λ x. x.1) (take l.entry-index l.placed.items)
