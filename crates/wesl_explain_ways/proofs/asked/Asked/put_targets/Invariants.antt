use Rattle.std.proofs.Common.{ℕ}
use Rattle.wesl_link_symbols.specs.declared.ids.PathId.{PathId}
use Rattle.wesl_tree_base.specs.declared.ids.NameId.{NameId}
use Rattle.wesl_link_symbols.specs.declared.symbols.Import.{Import}
use Rattle.wesl_link_symbols.specs.Index.{Binds}
use Rattle.wesl_link_symbols.proofs.Indexing.{steps}
use Rattle.wesl_link_flaws.proofs.Over.{IsOver}
use Rattle.wesl_explain_ways.proofs.asked.Asked.put_targets.Given as goal

abbrev pub invariant-targets : goal.invariant-targets
invariant-targets l = IsOver (Binds l.name) (λ (k : ℕ) (i : Import PathId NameId). Unit {0}) l.table.imports l.at

abbrev pub decreases-targets : goal.decreases-targets
decreases-targets l = steps l.at
