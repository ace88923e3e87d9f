use Rattle.std.proofs.Common.{◌≡◌, ◌∷◌, Some, take}
use Rattle.wesl_link_engine.specs.Resolved.{paths_of, paths_told}
use Rattle.wesl_link_engine.specs.Keeping.{loaded_modules}
use Rattle.wesl_link_engine.specs.declared.link.Link.{Link}
use Rattle.wesl_link_engine.proofs.resolutions.Resolutions.module_order.Given as goal

abbrev pub invariant-loop-module : goal.invariant-loop-module
invariant-loop-module l = (k : Link) → l.self.link ≡ Some k → paths_told l.paths.items ≡ paths_of (loaded_modules (k.root ∷ take l.module-index l.module-items))
