use Rattle.std.proofs.Common.{◌≡◌, ◌∷◌, take, Contains}
use Rattle.wesl_tree_names.specs.Path.{path_view}
use Rattle.wesl_link_engine.specs.declared.loaded.LoadedModule.{LoadedModule}
use Rattle.wesl_link_engine.proofs.reasons.number_at.Given as goal

abbrev pub invariant-loop-module : goal.invariant-loop-module
invariant-loop-module l = (m : LoadedModule) → Contains (l.link.root ∷ take l.module-index l.link.others.items) m → path_view m.path ≡ path_view l.path → ⊥
