use Rattle.std.proofs.Common.{Some, refl}
use Rattle.std.proofs.lemmas.Bool.{false≢true}
use Rattle.wesl_link_symbols.specs.Index.{IsNamed}
use Rattle.wesl_link_symbols.specs.Names.{Sees}
use Rattle.wesl_link_symbols.proofs.Indexing.{over_start, over_read, over_found, over_next, over_all}
use Rattle.wesl_link_symbols.proofs.table.Table.declares_among_all.Goals as goal

pub declarations-init : goal.declarations-init
declarations-init c = over_start (IsNamed (Some c.args.look_up.name)) (λ d. Sees c.args.self.now c.args.look_up.from d.place → ⊥) c.args.self.now.declarations c.latest_of-at.result c.latest_of-at.ensures

pub returns-then-sees : goal.returns-then-sees
returns-then-sees c =
    let there = over_read (IsNamed (Some c.args.look_up.name)) (λ d. Sees c.args.self.now c.args.look_up.from d.place → ⊥) c.args.self.now.declarations c.declarations.at c.in-Some.index _ c.index-declarations-index.result c.in-Some.is c.declarations.invariant c.declarations-in-Some.ensures c.index-declarations-index.is in
    let (held, named) = over_found (IsNamed (Some c.args.look_up.name)) (λ d. Sees c.args.self.now c.args.look_up.from d.place → ⊥) c.args.self.now.declarations c.declarations.at c.in-Some.index c.index-declarations-index.result c.in-Some.is c.declarations.invariant there in
    (λ yes. (c.index-declarations-index.result, held, named, rw c.place.ensures at c.if-sees.ensures.0 refl), λ d. refl)

pub declarations-preserved : goal.declarations-preserved
declarations-preserved c =
    let there = over_read (IsNamed (Some c.args.look_up.name)) (λ d. Sees c.args.self.now c.args.look_up.from d.place → ⊥) c.args.self.now.declarations c.declarations.at c.in-Some.index _ c.index-declarations-index.result c.in-Some.is c.declarations.invariant c.declarations-in-Some.ensures c.index-declarations-index.is in
    over_next (IsNamed (Some c.args.look_up.name)) (λ d. Sees c.args.self.now c.args.look_up.from d.place → ⊥) c.args.self.now.declarations c.declarations.at c.in-Some.index c.index-declarations-index.result c.earlier_of-at.result c.in-Some.is
    c.declarations.invariant there (λ sees. false≢true (c.if-sees.ensures.1 (rw c.place.ensures sees))) c.earlier_of-at.ensures

pub returns : goal.returns
returns c = (
  λ no. absurd (false≢true no),
  λ (d, held, named, sees). absurd (over_all (IsNamed (Some c.args.look_up.name)) (λ d. Sees c.args.self.now c.args.look_up.from d.place → ⊥) c.args.self.now.declarations c.declarations.at c.in_default.is c.declarations.invariant d held named sees),
)
