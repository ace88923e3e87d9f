use Rattle.std.proofs.Common.{refl}
use Rattle.wesl_link_symbols.specs.Index.{Binds}
use Rattle.wesl_link_symbols.specs.Names.{SameTarget}
use Rattle.wesl_link_symbols.proofs.Indexing.{over_start, over_index, over_found, over_next, over_all}
use Rattle.wesl_link_reach.specs.Faults.{Meet}
use Rattle.wesl_link_reach.proofs.names.meets_any_import.Goals as goal

pub imports-init : goal.imports-init
imports-init c = over_start (Binds c.args.import.now.bound) (λ j. Meet c.args.table.now c.args.import.now.place j.place → SameTarget c.args.import.now j) c.args.table.now.imports c.latest_import_of-at.result c.latest_import_of-at.ensures

pub returns-then-are_apart-clause-yes : goal.returns-then-are_apart-clause-yes
returns-then-are_apart-clause-yes c =
    let there = over_index (Binds c.args.import.now.bound) (λ j. Meet c.args.table.now c.args.import.now.place j.place → SameTarget c.args.import.now j) c.args.table.now.imports c.imports.at c.in-Some.index _ _ c.in-Some.is c.imports.invariant c.imports-in-Some.ensures in
    let found = over_found (Binds c.args.import.now.bound) (λ j. Meet c.args.table.now c.args.import.now.place j.place → SameTarget c.args.import.now j) c.args.table.now.imports c.imports.at c.in-Some.index _ c.in-Some.is c.imports.invariant there in
    λ yes. (_, found, c.if-are_apart.ensures.yes refl)

pub imports-preserved : goal.imports-preserved
imports-preserved c =
    let there = over_index (Binds c.args.import.now.bound) (λ j. Meet c.args.table.now c.args.import.now.place j.place → SameTarget c.args.import.now j) c.args.table.now.imports c.imports.at c.in-Some.index _ _ c.in-Some.is c.imports.invariant c.imports-in-Some.ensures in
    over_next (Binds c.args.import.now.bound) (λ j. Meet c.args.table.now c.args.import.now.place j.place → SameTarget c.args.import.now j) c.args.table.now.imports c.imports.at c.in-Some.index _ c.earlier_import_of-at.result c.in-Some.is c.imports.invariant there (c.if-are_apart.ensures.no refl) c.earlier_import_of-at.ensures

pub returns-clause-no : goal.returns-clause-no
returns-clause-no c = λ no j held. over_all (Binds c.args.import.now.bound) (λ j. Meet c.args.table.now c.args.import.now.place j.place → SameTarget c.args.import.now j) c.args.table.now.imports c.imports.at c.in_default.is c.imports.invariant j held.0 held.1
