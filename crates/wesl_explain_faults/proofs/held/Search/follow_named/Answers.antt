use Rattle.std.proofs.Common.{ℕ}
use Rattle.wesl_link_symbols.specs.declared.ids.PathId.{PathId}
use Rattle.wesl_tree_base.specs.declared.ids.NameId.{NameId}
use Rattle.wesl_link_symbols.specs.Index.{IsNamed}
use Rattle.wesl_link_symbols.specs.Tables.{Declaration}
use Rattle.wesl_link_flaws.proofs.Over.{start, next}
use Rattle.wesl_explain_faults.proofs.held.Search.follow_named.Goals as goal

pub declarations-init : goal.declarations-init
declarations-init c = start (IsNamed c.args.name) (λ (i : ℕ) (d : Declaration PathId NameId). Unit {0}) c.args.table.now.declarations c.latest_of-at.result c.latest_of-at.ensures

pub declarations-preserved : goal.declarations-preserved
declarations-preserved c =
    next (IsNamed c.args.name) (λ (i : ℕ) (d : Declaration PathId NameId). Unit {0}) c.args.table.now.declarations c.declarations.at c.in-Some.index c.earlier_of-at.result c.in-Some.is
    c.declarations.invariant (λ d there. tt) c.earlier_of-at.ensures
