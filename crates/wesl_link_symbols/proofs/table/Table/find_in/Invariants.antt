use Rattle.std.proofs.Common.{◌≤◌, ◌-◌}
use Rattle.wesl_link_symbols.specs.Row.{Passes}
use Rattle.wesl_link_symbols.specs.Searching.{IsPassedOf}
use Rattle.wesl_link_symbols.proofs.table.Table.find_in.Given as goal

abbrev pub invariant-imports : goal.invariant-imports
invariant-imports l = Passes (IsPassedOf l.self l.look_up l.sought) l.row.imports.items l.extent.start l.i

abbrev pub decreases-imports : goal.decreases-imports
decreases-imports l = l.extent.end - l.i
