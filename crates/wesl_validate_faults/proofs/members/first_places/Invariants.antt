use Rattle.std.proofs.Common.{◌≡◌, ℕ, take}
use Rattle.wesl_scope_values.specs.Values.{value_at}
use Rattle.wesl_validate_faults.specs.Gathered.{place_of}
use Rattle.wesl_validate_faults.proofs.members.first_places.Given as goal

abbrev pub invariant-loop-entry : goal.invariant-loop-entry
invariant-loop-entry l = (m : ℕ) → value_at l.firsts.items m ≡ place_of (take l.entry-index l.placed.items) m
