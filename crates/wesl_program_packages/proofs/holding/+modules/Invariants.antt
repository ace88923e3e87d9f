use Rattle.wesl_program_bundle.specs.PackageViews.{package_modules_view}
use Rattle.wesl_program_packages.specs.Held.{HoldsModules}
use Rattle.wesl_program_packages.proofs.holding.+modules.Given as goal

abbrev pub invariant-held_modules-loop-module : goal.invariant-held_modules-loop-module
invariant-held_modules-loop-module l = HoldsModules (package_modules_view l.yielded) l.named
