use Rattle.std.proofs.Common.{Some}
use Rattle.wesl_link_symbols.specs.Index.{IsNamed}
use Rattle.wesl_link_symbols.proofs.Indexing.{IsGoneOver, steps}
use Rattle.wesl_link_reach.specs.Faults.{Meet}
use Rattle.wesl_link_reach.proofs.names.meets_any_declaration.Given as goal

abbrev pub invariant-declarations : goal.invariant-declarations
invariant-declarations l = IsGoneOver (IsNamed (Some l.import.bound)) (λ d. Meet l.table d.place l.import.place → ⊥) l.table.declarations l.at

abbrev pub decreases-declarations : goal.decreases-declarations
decreases-declarations l = steps l.at
