use Rattle.std.proofs.Common.{◌≡◌, false, take}
use Rattle.wesl_link_engine.specs.Linked.{placed}
use Rattle.wesl_link_engine.specs.Keeping.{module_of}
use Rattle.wesl_link_engine.specs.Holding.{AddsPlaced}
use Rattle.wesl_link_engine.proofs.assemble.copy_module.Given as goal

abbrev pub invariant-loop-index : goal.invariant-loop-index
invariant-loop-index l =
    (l.parts.is_refused ≡ false → AddsPlaced l.link (take l.index (placed (module_of l.module))) l.initial.parts l.parts) × (l.parts.is_refused ≡ false → l.initial.parts.is_refused ≡ false)
