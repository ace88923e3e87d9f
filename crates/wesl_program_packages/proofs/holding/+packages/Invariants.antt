use Rattle.wesl_program_bundle.specs.PackageViews.{packages_view}
use Rattle.wesl_program_packages.specs.Held.{HoldsPackages}
use Rattle.wesl_program_packages.proofs.holding.+packages.Given as goal

abbrev pub invariant-held_packages-loop-package : goal.invariant-held_packages-loop-package
invariant-held_packages-loop-package l = HoldsPackages (packages_view l.yielded) l.named
