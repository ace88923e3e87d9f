use Rattle.std.proofs.Common.{◌≡◌, ◌∙◌, Some, sym, ap, subst, string_bytes}
use Rattle.wesl_tree_names.specs.Path.{Text}
use Rattle.wesl_tree_syntax.specs.Unit.{UnitView, name_in}
use Rattle.wesl_scope_occurrences.specs.Identified.{identified}
use Rattle.wesl_scope_strip.specs.Declarations.{all}
use Rattle.wesl_validate_rules.specs.Valid.{spelling}
use Rattle.wesl_validate_rules.specs.Faults.{IsCycle}
use Rattle.wesl_validate_calls.proofs.Misfitting.{some_of}
use Rattle.wesl_validate_calls.proofs.fault.cycle_fault.Goals as goal

pub returns-in_ok-name_of-in-Some-clause-fault : goal.returns-in_ok-name_of-in-Some-clause-fault
returns-in_ok-name_of-in-Some-clause-fault c =
    let found = c.args.found.now in
    let first = c.in-Some.first in
    let last = c.in-Some.last in
    λ u known.
    let from : string_bytes c.in_ok-name-in-Some.name ≡ spelling u first = c.in_ok-name-in-Some.ensures ∙ ap (λ ns. name_in ns first) known.same_names in
    let to : string_bytes c.in_ok-by-in-Some.by ≡ spelling u last = c.in_ok-by-in-Some.ensures ∙ ap (λ ns. name_in ns last) known.same_names in
    let round = c.in_ok-name_of-in-Some.ensures ∙ ap (λ ns. name_in ns first) known.same_names in
    let ring : IsCycle u (spelling u first) (spelling u last) =
    some_of c.in_ok-cycle.field-0 (λ p. (v : UnitView) → identified found ≡ all v → IsCycle v (spelling v p.0) (spelling v p.1)) (first, last) c.in-Some.is c.in_ok-cycle.ensures.cycle u known.same_identifiers in
    let From : Text → Type 0 = λ n. IsCycle u n (spelling u last) in
    let To : Text → Type 0 = λ n. IsCycle u (string_bytes c.in_ok-name-in-Some.name) n in
    (subst To (sym to) (subst From (sym from) ring), ap Some (round ∙ sym from))
