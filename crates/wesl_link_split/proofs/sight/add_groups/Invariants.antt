use Rattle.std.proofs.Common.{take}
use Rattle.wesl_link_split.specs.Grouped.{AreGrouped}
use Rattle.wesl_link_split.proofs.sight.add_groups.Given as goal

abbrev pub invariant-loop-binder : goal.invariant-loop-binder
invariant-loop-binder l = AreGrouped (take l.binder-index l.binders) l.names.keys l.groups.items
