use Rattle.std.proofs.Common.{◌≡◌, take}
use Rattle.std.specs.Prelude.{flat_map, ◌==◌}
use Rattle.wesl_link_split.specs.Grouped.{one_if}
use Rattle.wesl_link_split.proofs.binders.add_asked.Given as goal

abbrev pub invariant-loop-aim : goal.invariant-loop-aim
invariant-loop-aim l = l.found.items ≡ flat_map (λ a. one_if (a.order == l.least) a.reference) (take l.aim-index l.aims)
