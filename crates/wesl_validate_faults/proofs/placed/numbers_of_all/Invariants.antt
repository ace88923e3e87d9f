use Rattle.std.proofs.Common.{◌≡◌, map, take}
use Rattle.wesl_validate_faults.proofs.placed.numbers_of_all.Given as goal

abbrev pub invariant-loop-occurrence : goal.invariant-loop-occurrence
invariant-loop-occurrence l = l.given.items ≡ map (λ o. o.ident.0) (take l.occurrence-index l.found.all.items)
