use Rattle.std.proofs.Common.{Contains}
use Rattle.wesl_tree_base.specs.declared.ids.NameId.{NameId}
use Rattle.wesl_link_symbols.specs.Index.{IsNamed}
use Rattle.wesl_link_symbols.proofs.Indexing.{over_start, over_read, over_next, over_all}
use Rattle.wesl_link_reach.proofs.names.unclear_from.Goals as goal

pub declarations-init : goal.declarations-init
declarations-init c = over_start (IsNamed c.args.name) (λ d. (n : NameId) → Contains d.unclear n → ⊥) c.args.table.now.declarations c.latest_of-at.result c.latest_of-at.ensures

pub declarations-preserved : goal.declarations-preserved
declarations-preserved c =
    let there = over_read (IsNamed c.args.name) (λ d. (n : NameId) → Contains d.unclear n → ⊥) c.args.table.now.declarations c.declarations.at c.in-Some.index _ c.index-declarations-index.result c.in-Some.is c.declarations.invariant c.declarations-in-Some.ensures c.index-declarations-index.is in
    over_next (IsNamed c.args.name) (λ d. (n : NameId) → Contains d.unclear n → ⊥) c.args.table.now.declarations c.declarations.at c.in-Some.index c.index-declarations-index.result c.earlier_of-at.result c.in-Some.is
    c.declarations.invariant there c.in_default-first_unclear.ensures.none c.earlier_of-at.ensures

pub returns : goal.returns
returns c = λ n (d, held, named, unclear). over_all (IsNamed c.args.name) (λ d. (n : NameId) → Contains d.unclear n → ⊥) c.args.table.now.declarations c.declarations.at c.in_default.is c.declarations.invariant d held named n unclear
