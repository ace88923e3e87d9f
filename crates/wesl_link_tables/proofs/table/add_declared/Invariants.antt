use Rattle.std.proofs.Common.{◌≡◌, take}
use Rattle.wesl_link_tables.specs.Split.{declared_from}
use Rattle.wesl_link_tables.proofs.table.add_declared.Given as goal

abbrev pub invariant-loop-i : goal.invariant-loop-i
invariant-loop-i l = l.binders.items ≡ declared_from l.own 0 (take l.i l.names)
