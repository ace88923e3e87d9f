use Rattle.std.proofs.Common.{refl}
use Rattle.wesl_link_symbols.specs.Index.{Binds}
use Rattle.wesl_link_symbols.specs.Searching.{IsPassed}
use Rattle.wesl_link_symbols.proofs.Indexing.{over_start, over_index, over_found, over_next, over_all}
use Rattle.wesl_link_symbols.proofs.table.Table.has_among_all.Goals as goal

pub imports-init : goal.imports-init
imports-init c = over_start (Binds c.args.look_up.name) (λ i. IsPassed c.args.self.now c.args.look_up c.args.sought i) c.args.self.now.imports c.latest_import_of-at.result c.latest_import_of-at.ensures

pub returns-then-is_sought-clause-yes : goal.returns-then-is_sought-clause-yes
returns-then-is_sought-clause-yes c =
    let there = over_index (Binds c.args.look_up.name) (λ i. IsPassed c.args.self.now c.args.look_up c.args.sought i) c.args.self.now.imports c.imports.at c.in-Some.index _ _ c.in-Some.is c.imports.invariant c.imports-in-Some.ensures in
    let found = over_found (Binds c.args.look_up.name) (λ i. IsPassed c.args.self.now c.args.look_up c.args.sought i) c.args.self.now.imports c.imports.at c.in-Some.index _ c.in-Some.is c.imports.invariant there in
    λ yes. (_, found, c.if-is_sought.ensures.yes refl)

pub imports-preserved : goal.imports-preserved
imports-preserved c =
    let there = over_index (Binds c.args.look_up.name) (λ i. IsPassed c.args.self.now c.args.look_up c.args.sought i) c.args.self.now.imports c.imports.at c.in-Some.index _ _ c.in-Some.is c.imports.invariant c.imports-in-Some.ensures in
    over_next (Binds c.args.look_up.name) (λ i. IsPassed c.args.self.now c.args.look_up c.args.sought i) c.args.self.now.imports c.imports.at c.in-Some.index _ c.earlier_import_of-at.result c.in-Some.is c.imports.invariant there (c.if-is_sought.ensures.no refl) c.earlier_import_of-at.ensures

pub returns-clause-no : goal.returns-clause-no
returns-clause-no c = λ no i held. over_all (Binds c.args.look_up.name) (λ i. IsPassed c.args.self.now c.args.look_up c.args.sought i) c.args.self.now.imports c.imports.at c.in_default.is c.imports.invariant i held.0 held.1
