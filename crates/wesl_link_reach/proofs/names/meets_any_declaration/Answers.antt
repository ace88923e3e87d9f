use Rattle.std.proofs.Common.{Some, refl}
use Rattle.std.proofs.lemmas.Bool.{false≢true}
use Rattle.wesl_link_symbols.specs.Index.{IsNamed}
use Rattle.wesl_link_symbols.proofs.Indexing.{over_start, over_read, over_found, over_next, over_all}
use Rattle.wesl_link_reach.specs.Faults.{Meet}
use Rattle.wesl_link_reach.proofs.names.meets_any_declaration.Goals as goal

pub declarations-init : goal.declarations-init
declarations-init c = over_start (IsNamed (Some c.args.import.now.bound)) (λ d. Meet c.args.table.now d.place c.args.import.now.place → ⊥) c.args.table.now.declarations c.latest_of-at.result c.latest_of-at.ensures

pub returns-then-meet-clause-yes : goal.returns-then-meet-clause-yes
returns-then-meet-clause-yes c =
    let there = over_read (IsNamed (Some c.args.import.now.bound)) (λ d. Meet c.args.table.now d.place c.args.import.now.place → ⊥) c.args.table.now.declarations c.declarations.at c.in-Some.index _ c.index-declarations-index.result c.in-Some.is c.declarations.invariant c.declarations-in-Some.ensures c.index-declarations-index.is in
    let (held, named) = over_found (IsNamed (Some c.args.import.now.bound)) (λ d. Meet c.args.table.now d.place c.args.import.now.place → ⊥) c.args.table.now.declarations c.declarations.at c.in-Some.index c.index-declarations-index.result c.in-Some.is c.declarations.invariant there in
    λ yes. (c.index-declarations-index.result, held, named, rw c.place.ensures at c.if-meet.ensures.0 refl)

pub declarations-preserved : goal.declarations-preserved
declarations-preserved c =
    let there = over_read (IsNamed (Some c.args.import.now.bound)) (λ d. Meet c.args.table.now d.place c.args.import.now.place → ⊥) c.args.table.now.declarations c.declarations.at c.in-Some.index _ c.index-declarations-index.result c.in-Some.is c.declarations.invariant c.declarations-in-Some.ensures c.index-declarations-index.is in
    over_next (IsNamed (Some c.args.import.now.bound)) (λ d. Meet c.args.table.now d.place c.args.import.now.place → ⊥) c.args.table.now.declarations c.declarations.at c.in-Some.index c.index-declarations-index.result c.earlier_of-at.result c.in-Some.is
    c.declarations.invariant there (λ meet. false≢true (c.if-meet.ensures.1 (rw c.place.ensures meet))) c.earlier_of-at.ensures

pub returns-clause-no : goal.returns-clause-no
returns-clause-no c = λ no d held named meet. over_all (IsNamed (Some c.args.import.now.bound)) (λ d. Meet c.args.table.now d.place c.args.import.now.place → ⊥) c.args.table.now.declarations c.declarations.at c.in_default.is c.declarations.invariant d held named meet
