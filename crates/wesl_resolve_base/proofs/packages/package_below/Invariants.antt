use Rattle.std.proofs.Common.{◌≡◌, drop}
use Rattle.wesl_tree_base.specs.Borrowed.{texts}
use Rattle.wesl_resolve_base.specs.Packages.{package_below}
use Rattle.wesl_resolve_base.proofs.packages.package_below.Given as goal

-- what is left leads on from the package that was come to
abbrev pub invariant-loop-part : goal.invariant-loop-part
invariant-loop-part l = package_below l.whole l.first (texts l.parts) ≡ package_below l.whole l.package (texts (drop l.part-index l.parts))
