use Rattle.wesl_link_symbols.specs.Names.{IsOpenTo}
use Rattle.wesl_link_symbols.proofs.table.Table.lowest_in.Given as goal

abbrev pub invariant-imports : goal.invariant-imports
invariant-imports l = IsOpenTo l.self l.look_up l.lowest

abbrev pub decreases-imports : goal.decreases-imports
decreases-imports l = l.lowest.order
