use Rattle.std.proofs.Common.{◌≡◌, map, take}
use Rattle.wesl_cond_sets.specs.SetNumbers.{place_in}
use Rattle.wesl_cond_alive.proofs.alive.place_sets.Given as goal

abbrev pub invariant-loop-place : goal.invariant-loop-place
invariant-loop-place l = l.numbers.items ≡ map (λ h. place_in l.sets h.set) (take l.place-index l.places)
