use Rattle.std.proofs.Common.{◌≡◌, false, List, [], ◌∷◌}
use Rattle.wesl_link_assembly.specs.Views.{Meaning}
use Rattle.wesl_link_engine.specs.Holding.{AreParts, AreModulesOf}
use Rattle.wesl_link_engine.specs.declared.link.Link.{Link}
use Rattle.wesl_link_engine.proofs.moving.move_modules.Given as goal

abbrev pub invariant-loop-module : goal.invariant-loop-module
invariant-loop-module l =
    l.parts.is_refused ≡ false → (k : Link) → AreModulesOf k l.numbers l.linked (l.fn.root ∷ l.fn.others.items) → (words : List Meaning) → AreParts k [] words l.fn.parts → AreParts k (l.fn.root ∷ l.yielded) words l.parts
