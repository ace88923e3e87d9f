use Rattle.std.proofs.Common.{ℕ}
use Rattle.wesl_link_symbols.specs.declared.ids.PathId.{PathId}
use Rattle.wesl_tree_base.specs.declared.ids.NameId.{NameId}
use Rattle.wesl_link_symbols.specs.declared.symbols.Import.{Import}
use Rattle.wesl_link_symbols.specs.Index.{Binds}
use Rattle.wesl_link_flaws.proofs.Over.{start, next}
use Rattle.wesl_explain_ways.proofs.asked.Asked.put_targets.Goals as goal

pub targets-init : goal.targets-init
targets-init c = start (Binds c.args.name) (λ (k : ℕ) (i : Import PathId NameId). Unit {0}) c.args.table.now.imports c.latest_import_of-at.result c.latest_import_of-at.ensures

pub targets-preserved : goal.targets-preserved
targets-preserved c =
    next (Binds c.args.name) (λ (k : ℕ) (i : Import PathId NameId). Unit {0}) c.args.table.now.imports c.targets.at c.in-Some.index c.earlier_import_of-at.result c.in-Some.is
    c.targets.invariant (λ i there. tt) c.earlier_import_of-at.ensures
