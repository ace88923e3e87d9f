use Rattle.std.proofs.Common.{◌≡◌, map, take}
use Rattle.wesl_cond_sets.specs.SetNumbers.{place_in}
use Rattle.wesl_cond_alive.proofs.alive.mark_sets.Given as goal

abbrev pub invariant-loop-mark : goal.invariant-loop-mark
invariant-loop-mark l = l.numbers.items ≡ map (λ m. place_in l.sets m.set) (take l.mark-index l.marks)
