use Rattle.std.specs.Prelude.{Result, Ok, Err, IfOk}
use Rattle.wesl_tree.specs.Translation.{unit_view}
use Rattle.wesl_scope_numbers.proofs.Fitting.{Fits, fits}
use Rattle.wesl_scope_numbers.proofs.by_meaning.numbers_by_meaning.Goals as goal

of_both : {A E : Type 0} {P Q R : A → Type 0} (r : Result A E) → ((x : A) → P x → Q x → R x) → IfOk r P → IfOk r Q → IfOk r R
of_both (Ok x) f p q = f x p q
of_both (Err e) f p q = p

pub returns-clause-one_each : goal.returns-clause-one_each
returns-clause-one_each c =
    of_both c.numbers_and_names.result (λ r given named.
    let all : Fits (unit_view c.args.unit.now) r.0.items r.1 =
    fits c.law_of_ways.ensures c.law_of_occurrences.ensures.spelling c.law_of_occurrences.ensures.identifiers (unit_view c.args.unit.now) c.in_ok-meant.meant.found.outer.items c.in_ok-meant.meant.keys.items r.0.items r.1 c.deref.result.now
    c.in_ok-meant.ensures.nested c.in_ok-meant.ensures.keys c.in_ok-meant.ensures.below c.deref.ensures.value given named c.law_of_numbers.ensures.there in
    all.one_each_is) c.numbers_and_names.ensures.given c.numbers_and_names.ensures.table

pub returns-clause-numbers : goal.returns-clause-numbers
returns-clause-numbers c =
    of_both c.numbers_and_names.result (λ r given named.
    let all : Fits (unit_view c.args.unit.now) r.0.items r.1 =
    fits c.law_of_ways.ensures c.law_of_occurrences.ensures.spelling c.law_of_occurrences.ensures.identifiers (unit_view c.args.unit.now) c.in_ok-meant.meant.found.outer.items c.in_ok-meant.meant.keys.items r.0.items r.1 c.deref.result.now
    c.in_ok-meant.ensures.nested c.in_ok-meant.ensures.keys c.in_ok-meant.ensures.below c.deref.ensures.value given named c.law_of_numbers.ensures.there in
    all.numbers_are) c.numbers_and_names.ensures.given c.numbers_and_names.ensures.table

pub returns-clause-named : goal.returns-clause-named
returns-clause-named c =
    of_both c.numbers_and_names.result (λ r given named.
    let all : Fits (unit_view c.args.unit.now) r.0.items r.1 =
    fits c.law_of_ways.ensures c.law_of_occurrences.ensures.spelling c.law_of_occurrences.ensures.identifiers (unit_view c.args.unit.now) c.in_ok-meant.meant.found.outer.items c.in_ok-meant.meant.keys.items r.0.items r.1 c.deref.result.now
    c.in_ok-meant.ensures.nested c.in_ok-meant.ensures.keys c.in_ok-meant.ensures.below c.deref.ensures.value given named c.law_of_numbers.ensures.there in
    all.named_is) c.numbers_and_names.ensures.given c.numbers_and_names.ensures.table

pub returns-clause-below : goal.returns-clause-below
returns-clause-below c =
    of_both c.numbers_and_names.result (λ r given named.
    let all : Fits (unit_view c.args.unit.now) r.0.items r.1 =
    fits c.law_of_ways.ensures c.law_of_occurrences.ensures.spelling c.law_of_occurrences.ensures.identifiers (unit_view c.args.unit.now) c.in_ok-meant.meant.found.outer.items c.in_ok-meant.meant.keys.items r.0.items r.1 c.deref.result.now
    c.in_ok-meant.ensures.nested c.in_ok-meant.ensures.keys c.in_ok-meant.ensures.below c.deref.ensures.value given named c.law_of_numbers.ensures.there in
    all.below_is) c.numbers_and_names.ensures.given c.numbers_and_names.ensures.table

pub returns-clause-table : goal.returns-clause-table
returns-clause-table c =
    of_both c.numbers_and_names.result (λ r given named.
    let all : Fits (unit_view c.args.unit.now) r.0.items r.1 =
    fits c.law_of_ways.ensures c.law_of_occurrences.ensures.spelling c.law_of_occurrences.ensures.identifiers (unit_view c.args.unit.now) c.in_ok-meant.meant.found.outer.items c.in_ok-meant.meant.keys.items r.0.items r.1 c.deref.result.now
    c.in_ok-meant.ensures.nested c.in_ok-meant.ensures.keys c.in_ok-meant.ensures.below c.deref.ensures.value given named c.law_of_numbers.ensures.there in
    all.used_is) c.numbers_and_names.ensures.given c.numbers_and_names.ensures.table
