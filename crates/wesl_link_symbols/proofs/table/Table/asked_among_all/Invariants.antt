use Rattle.wesl_link_symbols.proofs.Answering.{IsLowest}
use Rattle.wesl_link_symbols.proofs.Indexing.{steps}
use Rattle.wesl_link_symbols.proofs.table.Table.asked_among_all.Given as goal

abbrev pub invariant-imports : goal.invariant-imports
invariant-imports l = IsLowest l.self l.look_up l.at l.lowest

abbrev pub decreases-imports : goal.decreases-imports
decreases-imports l = steps l.at
