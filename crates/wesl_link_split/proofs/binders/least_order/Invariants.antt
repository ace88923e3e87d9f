use Rattle.std.proofs.Common.{take, map, ◌∷◌}
use Rattle.wesl_link_split.specs.Grouped.{IsLeast}
use Rattle.wesl_link_split.proofs.binders.least_order.Given as goal

abbrev pub invariant-loop-aim : goal.invariant-loop-aim
invariant-loop-aim l = IsLeast (l.first.order ∷ map (λ a. a.order) (take l.aim-index l.aims)) l.least
