use Rattle.std.proofs.Common.{◌≡◌, drop}
use Rattle.wesl_resolve.specs.Places.{module_along}
use Rattle.wesl_resolve.proofs.package_index.module_along.Given as goal

-- what is left leads on from the module that was come to
abbrev pub invariant-loop-number : goal.invariant-loop-number
invariant-loop-number l = module_along l.root l.place ≡ module_along l.«module» (drop l.number-index l.place)
