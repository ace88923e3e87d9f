use Rattle.std.proofs.Common.{◌≡◌, map, drop, string_bytes}
use Rattle.wesl_resolve_base.specs.Packages.{module_below}
use Rattle.wesl_resolve_base.proofs.packages.module_below.Given as goal

-- what is left leads on from the module that was come to
abbrev pub invariant-loop-component : goal.invariant-loop-component
invariant-loop-component l = module_below l.root (map string_bytes l.components) ≡ module_below l.«module» (map string_bytes (drop l.component-index l.components))
