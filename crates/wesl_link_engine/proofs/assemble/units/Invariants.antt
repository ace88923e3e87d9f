use Rattle.std.proofs.Common.{◌≡◌, ◌∷◌, map, take}
use Rattle.wesl_tree.specs.Translation.{unit_view}
use Rattle.wesl_link_engine.proofs.assemble.units.Given as goal

abbrev pub invariant-loop-module : goal.invariant-loop-module
invariant-loop-module l = map (λ u. unit_view u.now) l.units.items ≡ map (λ m. unit_view m.unit) (l.root ∷ take l.module-index l.others)
