use Rattle.wesl_link_symbols.specs.Index.{Binds}
use Rattle.wesl_link_symbols.specs.Searching.{IsPassed}
use Rattle.wesl_link_symbols.proofs.Indexing.{IsGoneOver, steps}
use Rattle.wesl_link_symbols.proofs.table.Table.has_among_all.Given as goal

abbrev pub invariant-imports : goal.invariant-imports
invariant-imports l = IsGoneOver (Binds l.look_up.name) (λ i. IsPassed l.self l.look_up l.sought i) l.self.imports l.at

abbrev pub decreases-imports : goal.decreases-imports
decreases-imports l = steps l.at
