use Rattle.std.proofs.Common.{ℕ}
use Rattle.wesl_link_symbols.specs.declared.ids.PathId.{PathId}
use Rattle.wesl_tree_base.specs.declared.ids.NameId.{NameId}
use Rattle.wesl_link_symbols.specs.Index.{IsNamed}
use Rattle.wesl_link_symbols.specs.Tables.{Declaration}
use Rattle.wesl_link_symbols.proofs.Indexing.{steps}
use Rattle.wesl_link_flaws.proofs.Over.{IsOver}
use Rattle.wesl_explain_faults.proofs.held.Search.follow_named.Given as goal

abbrev pub invariant-declarations : goal.invariant-declarations
invariant-declarations l = IsOver (IsNamed l.name) (λ (i : ℕ) (d : Declaration PathId NameId). Unit {0}) l.table.declarations l.at

abbrev pub decreases-declarations : goal.decreases-declarations
decreases-declarations l = steps l.at
