use Rattle.std.proofs.Common.{Contains}
use Rattle.wesl_tree_base.specs.declared.ids.NameId.{NameId}
use Rattle.wesl_link_symbols.specs.Index.{IsNamed}
use Rattle.wesl_link_symbols.proofs.Indexing.{IsGoneOver, steps}
use Rattle.wesl_link_reach.proofs.names.unclear_from.Given as goal

abbrev pub invariant-declarations : goal.invariant-declarations
invariant-declarations l = IsGoneOver (IsNamed l.name) (λ d. (n : NameId) → Contains d.unclear n → ⊥) l.table.declarations l.at

abbrev pub decreases-declarations : goal.decreases-declarations
decreases-declarations l = steps l.at
