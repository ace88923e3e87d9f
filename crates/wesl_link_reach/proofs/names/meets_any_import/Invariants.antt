use Rattle.wesl_link_symbols.specs.Index.{Binds}
use Rattle.wesl_link_symbols.specs.Names.{SameTarget}
use Rattle.wesl_link_symbols.proofs.Indexing.{IsGoneOver, steps}
use Rattle.wesl_link_reach.specs.Faults.{Meet}
use Rattle.wesl_link_reach.proofs.names.meets_any_import.Given as goal

abbrev pub invariant-imports : goal.invariant-imports
invariant-imports l = IsGoneOver (Binds l.import.bound) (λ j. Meet l.table l.import.place j.place → SameTarget l.import j) l.table.imports l.at

abbrev pub decreases-imports : goal.decreases-imports
decreases-imports l = steps l.at
