use Rattle.std.proofs.Common.{◌≡◌, false, List, [], ◌∷◌, take}
use Rattle.wesl_link_assembly.specs.Views.{Meaning}
use Rattle.wesl_link_engine.specs.Holding.{AreParts}
use Rattle.wesl_link_engine.proofs.assemble.copy_modules.Given as goal

abbrev pub invariant-loop-module : goal.invariant-loop-module
invariant-loop-module l = l.parts.is_refused ≡ false → (words : List Meaning) → AreParts l.link [] words l.fn.parts → AreParts l.link (l.link.root ∷ take l.module-index l.module-items) words l.parts
