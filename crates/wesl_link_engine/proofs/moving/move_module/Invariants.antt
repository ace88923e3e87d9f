use Rattle.std.proofs.Common.{◌≡◌, false, length, take}
use Rattle.wesl_link_engine.specs.Linked.{placed}
use Rattle.wesl_link_engine.specs.Keeping.{module_of}
use Rattle.wesl_link_engine.specs.Holding.{AddsPlaced, IsModuleOf}
use Rattle.wesl_link_engine.specs.declared.link.Link.{Link}
use Rattle.wesl_link_engine.proofs.moving.move_module.Given as goal

abbrev pub invariant-loop-index : goal.invariant-loop-index
invariant-loop-index l =
    (l.parts.is_refused ≡ false → (k : Link) → IsModuleOf k l.numbers l.linked l.fn.loaded → AddsPlaced k (take (length l.yielded) (placed (module_of l.fn.loaded))) l.initial.parts l.parts)
    × (l.parts.is_refused ≡ false → l.initial.parts.is_refused ≡ false)
