use Rattle.std.proofs.Common.{Some}
use Rattle.wesl_link_symbols.specs.Index.{IsNamed}
use Rattle.wesl_link_symbols.specs.Names.{Sees}
use Rattle.wesl_link_symbols.proofs.Indexing.{IsGoneOver, steps}
use Rattle.wesl_link_symbols.proofs.table.Table.declares_among_all.Given as goal

abbrev pub invariant-declarations : goal.invariant-declarations
invariant-declarations l = IsGoneOver (IsNamed (Some l.look_up.name)) (λ d. Sees l.self l.look_up.from d.place → ⊥) l.self.declarations l.at

abbrev pub decreases-declarations : goal.decreases-declarations
decreases-declarations l = steps l.at
